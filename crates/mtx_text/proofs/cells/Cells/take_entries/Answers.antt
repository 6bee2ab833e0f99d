use Rattle.std.proofs.Common.{sym, ap, subst, ◌∙◌}
use Rattle.mtx_text.specs.Cells.{InOrder}
use Rattle.mtx_text.proofs.Gathered.{gathered_ordered}
use Rattle.mtx_text.proofs.cells.Cells.take_entries.Goals as goal

pub returns-clause-ordered : goal.returns-clause-ordered
returns-clause-ordered c = subst InOrder (sym (ap (λ v. v.items) c.swap.ensures.y_after ∙ c.gather.ensures)) (gathered_ordered c.self.inside.triples.items)
