use Rattle.std.proofs.Common.{◌≡◌, ◌+◌, ◌≤◌, length}
use Rattle.mtx_text.specs.Lines.{lines_of, lines_from}
use Rattle.mtx_text.proofs.lines.next_kept.Given as goal

abbrev pub invariant-loop-rest : goal.invariant-loop-rest
invariant-loop-rest l =
    (lines_from l.number (lines_of l.rest) ≡ lines_from l.fn.number (lines_of l.text))
    × (l.number + length (lines_of l.rest) ≡ l.fn.number + length (lines_of l.text))
    × (length l.rest ≤ length l.text)
    × (l.number + length l.rest ≤ l.fn.number + length l.text)

abbrev pub decreases-loop-rest : goal.decreases-loop-rest
decreases-loop-rest l = length l.rest
