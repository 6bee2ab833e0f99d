use Rattle.std.proofs.Common.{◌-◌, ◌≡◌, ◌≤◌}
use Rattle.hop_core.specs.State.{pulls}
use Rattle.rank_handles.proofs.many.pull_over.Given as goal

abbrev pub invariant-loop-at : goal.invariant-loop-at
invariant-loop-at g l = (l.at ≤ l.count) × (l.conveyor ≡ pulls l.at l.initial.conveyor)

abbrev pub decreases-loop-at : goal.decreases-loop-at
decreases-loop-at g l = l.count - l.at
