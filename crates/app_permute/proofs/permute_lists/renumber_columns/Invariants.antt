use Rattle.app_permute.specs.code.Sent.{with_new_column}
use Rattle.list_laws.proofs.Mapping.{Mapped}
use Rattle.app_permute.proofs.permute_lists.renumber_columns.Given as goal

abbrev pub invariant-loop-k : goal.invariant-loop-k
invariant-loop-k l = Mapped (with_new_column l.ranks l.news) l.initial.cells.items l.cells.items l.k
