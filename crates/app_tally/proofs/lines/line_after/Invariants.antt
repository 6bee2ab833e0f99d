use Rattle.std.proofs.Common.{◌≡◌, ◌+◌, ◌==◌, ◌≤◌, take}
use Rattle.std.specs.Prelude.{count_by}
use Rattle.app_tally.proofs.lines.line_after.Given as goal

abbrev pub invariant-loop-b : goal.invariant-loop-b
invariant-loop-b l = (l.line ≡ 1 + count_by (λ b. b == 10) (take l.b-index l.front)) × (l.line ≤ 1 + l.b-index)
