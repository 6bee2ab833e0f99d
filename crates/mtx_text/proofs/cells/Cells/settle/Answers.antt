use Rattle.std.proofs.Common.{arith, rules, sym, ap, ◌∙◌, subst}
use Rattle.std.proofs.lemmas.List.{take_all}
use Rattle.mtx_text.specs.Cells.{InOrder, gathered_cells}
use Rattle.mtx_text.proofs.Gathered.{gathered_twice, gathered_ordered}
use Rattle.mtx_text.proofs.cells.Cells.settle.Goals as goal

pub invariant_of-self : goal.invariant_of-self
invariant_of-self c =
    let ts = c.gather.new.triples in
    (search rules, subst InOrder (sym (take_all c.len-self-inside.result ts.items (omega (arith, ts.ok.0, c.len-self-inside.ensures)) ∙ c.gather.ensures)) (gathered_ordered c.self.inside.triples.items))

pub returns : goal.returns
returns c = ap gathered_cells c.gather.ensures ∙ gathered_twice c.self.inside.triples.items ∙ c.self.view_is
