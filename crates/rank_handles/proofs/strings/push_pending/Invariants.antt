use Rattle.std.proofs.Common.{◌-◌, ◌≡◌, ◌≤◌, drop, length}
use Rattle.rank_handles.specs.ElasticKept.{PendingMoved}
use Rattle.rank_handles.proofs.strings.push_pending.Given as goal

abbrev pub invariant-loop-pushed : goal.invariant-loop-pushed
invariant-loop-pushed l =
    PendingMoved (drop l.start l.spelled) l.initial.rank (drop l.pushed l.spelled) l.rank
    × (length l.spelled ≤ l.start → (l.pushed ≡ l.start) × (l.rank ≡ l.initial.rank))

abbrev pub decreases-loop-pushed : goal.decreases-loop-pushed
decreases-loop-pushed l = length l.spelled - l.pushed
