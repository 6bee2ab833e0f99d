use Rattle.drive_tests.proofs.Counted.{Counted}
use Rattle.drive_tests.proofs.watched.progs_of.Given as goal

abbrev pub invariant-loop-rank : goal.invariant-loop-rank
invariant-loop-rank l = Counted l.ranks l.ranks l.rank l.progs
