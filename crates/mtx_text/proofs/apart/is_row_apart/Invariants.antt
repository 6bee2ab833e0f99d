use Rattle.std.proofs.Common.{◌≡◌, ◌-◌, length, vec_len}
use Rattle.mtx_text.proofs.Chains.{Walked}
use Rattle.mtx_text.proofs.apart.is_row_apart.Given as goal

abbrev pub invariant-loop-at : goal.invariant-loop-at
invariant-loop-at l = Walked l.entries l.stamps.items l.row l.stamp l.at × (vec_len l.stamps ≡ l.side)

abbrev pub decreases-loop-at : goal.decreases-loop-at
decreases-loop-at l = length l.entries - l.at
