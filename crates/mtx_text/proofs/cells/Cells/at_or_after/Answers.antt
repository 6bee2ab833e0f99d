use Rattle.std.proofs.Common.{take, drop, ap, ◌∙◌, subst}
use Rattle.std.proofs.lemmas.List.{take_rest}
use Rattle.mtx_text.specs.Cells.{InOrder, first_from, raised_all}
use Rattle.mtx_text.proofs.Gathered.{gathered_ordered, gathered_from}
use Rattle.mtx_text.proofs.cells.Cells.at_or_after.Goals as goal

pub returns-clause-ordered : goal.returns-clause-ordered
returns-clause-ordered c = subst InOrder c.self.view_is (gathered_ordered c.self.inside.triples.items)

pub returns-clause-first : goal.returns-clause-first
returns-clause-first c =
    let items = c.self.inside.triples.items in
    let n = c.self.inside.settled in
    c.nearest.ensures (take n items) c.self.invariant.1 (c.find_first-best.ensures ∙ ap (λ ts. first_from c.args.i c.args.j (take n ts)) c.deref.ensures.value)
    ∙ ap (λ ts. first_from c.args.i c.args.j (raised_all (take n items) ts)) (take_rest c.deref-2.result.now n)
    ∙ ap (λ ts. first_from c.args.i c.args.j (raised_all (take n items) (drop n ts))) c.deref-2.ensures.value
    ∙ ap (first_from c.args.i c.args.j) (gathered_from items n c.self.invariant.1 ∙ c.self.view_is)
