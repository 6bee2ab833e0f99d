use Rattle.mtx_text.specs.code.PlainLines.{NumberTo}
use Rattle.mtx_text.proofs.plain.more_digits.Given as goal

abbrev pub invariant-loop-i : goal.invariant-loop-i
invariant-loop-i l = NumberTo l.text l.i l.size
