use Rattle.app_permute.specs.code.Sent.{with_new_row}
use Rattle.list_laws.proofs.Mapping.{Mapped}
use Rattle.app_permute.proofs.permute_lists.renumber_rows.Given as goal

abbrev pub invariant-loop-k : goal.invariant-loop-k
invariant-loop-k l = Mapped (with_new_row l.ranks l.news) l.initial.cells.items l.cells.items l.k
