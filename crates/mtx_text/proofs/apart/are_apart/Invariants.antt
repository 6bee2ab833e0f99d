use Rattle.std.proofs.Common.{◌≡◌, ℕ, ◌<◌, vec_len}
use Rattle.mtx_text.specs.code.Chains.{IsRowApart}
use Rattle.mtx_text.proofs.apart.are_apart.Given as goal

abbrev pub invariant-loop-row : goal.invariant-loop-row
invariant-loop-row l = ((r : ℕ) → r < l.row → IsRowApart l.entries r) × (vec_len l.stamps ≡ l.side)
