use Rattle.std.proofs.Common.{◌≡◌, [], map, take, slice_index_or}
use Rattle.app_permute.specs.Reorderings.{over_diagonal}
use Rattle.app_permute.proofs.transpose_run.turned_of.Given as goal

abbrev pub invariant-loop-x : goal.invariant-loop-x
invariant-loop-x l = l.cells.items ≡ map (λ e. over_diagonal e.1) (take l.x (slice_index_or l.parts l.rank []))
