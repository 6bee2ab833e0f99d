-- What permute makes of a batch is what it makes of its items one by one.
use Rattle.std.proofs.Common.{List, sym, ap, ◌∙◌}
use Rattle.std.proofs.lemmas.Bool.{eq-eqb, ne_eqb}
use Rattle.bale_items.specs.declared.triple.Triple.{Triple}
use Rattle.round_program.specs.Batches.{all_taken_in}
use Rattle.round_program.proofs.Batches.{then}
use Rattle.app_permute.specs.Permutes.{permute_rules}
use Rattle.app_permute.specs.code.PermuteView.{permute_state}
use Rattle.app_permute.proofs.PermuteBatches.{columns_taken, rows_taken, batch_valid}
use Rattle.app_permute.proofs.permute.PermuteProgram.absorb_each.Goals as goal

pub invariant_of-self : goal.invariant_of-self
invariant_of-self g c =
    let s = permute_state c.self.inside in
    batch_valid s _ _ c.self.invariant (eq-eqb s.round 1 c.if-self-eq1.true) c.raise_each.ensures.own c.raise_each.ensures.ordered

pub invariant_of-self-2 : goal.invariant_of-self-2
invariant_of-self-2 g c =
    let s = permute_state c.self.inside in
    batch_valid s _ _ c.self.invariant (ne_eqb s.round 1 c.if-self-eq1.false) c.raise_each-2.ensures.own c.raise_each-2.ensures.ordered

pub returns-then-self-eq1-clause-absorbed : goal.returns-then-self-eq1-clause-absorbed
returns-then-self-eq1-clause-absorbed g c =
    let s = permute_state c.self.inside in
    let came = g.I.Arrivals.items c.args.came in
    then c.raise_each.result _ _
    (λ is. ap (λ (l : List Triple). record s { cells = l }) is ∙ sym (columns_taken s s.cells came c.if-self-eq1.true) ∙ ap (λ t. all_taken_in permute_rules t came) c.self.view_is)
    c.raise_each.ensures.ok

pub returns-clause-absorbed : goal.returns-clause-absorbed
returns-clause-absorbed g c =
    let s = permute_state c.self.inside in
    let came = g.I.Arrivals.items c.args.came in
    then c.raise_each-2.result _ _
    (λ is. ap (λ (l : List Triple). record s { cells = l }) is ∙ sym (rows_taken s s.cells came c.if-self-eq1.false) ∙ ap (λ t. all_taken_in permute_rules t came) c.self.view_is)
    c.raise_each-2.ensures.ok
