use Rattle.std.proofs.Common.{sym, subst}
use Rattle.mtx_text.specs.Cells.{InOrder}
use Rattle.mtx_text.proofs.Gathered.{gathered_ordered}
use Rattle.mtx_text.proofs.cells.Cells.into_entries.Goals as goal

pub returns-clause-ordered : goal.returns-clause-ordered
returns-clause-ordered c = subst InOrder (sym c.gather.ensures) (gathered_ordered c.self.inside.triples.items)
