use Rattle.std.proofs.Common.{◌≡◌, take}
use Rattle.elastic.specs.Mails.{spelling_of}
use Rattle.elastic.proofs.spelling.spelled.Given as goal

abbrev pub invariant-loop-i : goal.invariant-loop-i
invariant-loop-i g l = l.outgoing.items ≡ spelling_of (take l.i (g.Q.LetterProgram.rules.letters l.q))
