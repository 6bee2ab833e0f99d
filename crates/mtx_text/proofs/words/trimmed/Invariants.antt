use Rattle.std.proofs.Common.{◌≡◌, drop}
use Rattle.mtx_text.specs.Lines.{words_of}
use Rattle.mtx_text.proofs.words.trimmed.Given as goal

abbrev pub invariant-loop-i : goal.invariant-loop-i
invariant-loop-i l = words_of (drop l.i l.line) ≡ words_of l.line
