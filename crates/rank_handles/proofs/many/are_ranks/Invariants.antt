use Rattle.std.proofs.Common.{length, take, ◌-◌, ◌≡◌, ◌≤◌}
use Rattle.rank_handles.specs.Many.{all_ranks}
use Rattle.rank_handles.proofs.many.are_ranks.Given as goal

abbrev pub invariant-loop-at : goal.invariant-loop-at
invariant-loop-at l = (l.at ≤ length l.to) × (l.good ≡ all_ranks l.ranks (take l.at l.to))

abbrev pub decreases-loop-at : goal.decreases-loop-at
decreases-loop-at l = length l.to - l.at
