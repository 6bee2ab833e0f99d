use Rattle.drive_tests.proofs.Added.{Added}
use Rattle.drive_tests.proofs.asking_tests.adders_of.Given as goal

abbrev pub invariant-loop-rank : goal.invariant-loop-rank
invariant-loop-rank l = Added l.ranks l.rank l.askers
