-- What transpose makes of a batch is what it makes of its items one by one.
use Rattle.std.proofs.Common.{◌≡◌, List, sym, ap, ◌∙◌, subst}
use Rattle.bale_items.specs.declared.triple.Triple.{Triple}
use Rattle.round_program.specs.Batches.{all_taken_in}
use Rattle.round_program.proofs.Batches.{then}
use Rattle.app_permute.specs.Transposes.{transpose_rules}
use Rattle.app_permute.specs.code.TransposeView.{transpose_state}
use Rattle.app_permute.proofs.TransposeBatches.{cells_taken, no_cells}
use Rattle.app_permute.proofs.transpose.TransposeProgram.absorb_each.Goals as goal

pub returns-then-self-eq0-clause-absorbed : goal.returns-then-self-eq0-clause-absorbed
returns-then-self-eq0-clause-absorbed g c =
    let s = transpose_state c.self.inside in
    let came = g.I.Arrivals.items c.args.came in
    then c.raise_each.result _ _
    (λ is. ap (λ (l : List Triple). record s { cells = l }) is ∙ sym (cells_taken s s.cells came c.if-self-eq0.true) ∙ ap (λ t. all_taken_in transpose_rules t came) c.self.view_is)
    c.raise_each.ensures.ok

pub returns-clause-absorbed : goal.returns-clause-absorbed
returns-clause-absorbed g c =
    let came = g.I.Arrivals.items c.args.came in
    sym (subst (λ t. all_taken_in transpose_rules t came ≡ t) c.self.view_is (no_cells (transpose_state c.self.inside) came c.if-self-eq0.false))
