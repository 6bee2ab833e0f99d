use Rattle.std.proofs.Common.{◌-◌, ◌≤◌}
use Rattle.mtx_text.proofs.piece.cut_after.Given as goal

abbrev pub invariant-loop-at : goal.invariant-loop-at
invariant-loop-at l = l.at ≤ l.bytes

abbrev pub decreases-loop-at : goal.decreases-loop-at
decreases-loop-at l = l.bytes - l.at
