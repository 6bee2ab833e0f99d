use Rattle.std.proofs.Common.{◌≡◌, ◌≤◌, ◌-◌, length}
use Rattle.rank_handles.proofs.Views.{Front}
use Rattle.rank_handles.proofs.view.of_sender.Given as goal

abbrev pub invariant-loop-count : goal.invariant-loop-count
invariant-loop-count g l = (l.count ≤ length l.entries) × Front l.conveyor.dims l.near l.from l.count l.entries

abbrev pub decreases-loop-count : goal.decreases-loop-count
decreases-loop-count g l = length l.entries - l.count
