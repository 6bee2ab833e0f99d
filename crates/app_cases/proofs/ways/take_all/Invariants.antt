use Rattle.std.proofs.Common.{length}
use Rattle.app_cases.proofs.Moving.{Taken}
use Rattle.app_cases.proofs.ways.take_all.Given as goal

abbrev pub invariant-loop-prog : goal.invariant-loop-prog
invariant-loop-prog g l = Taken g.A.Case.case_of l.fn.any l.all l.any

abbrev pub decreases-loop-prog : goal.decreases-loop-prog
decreases-loop-prog g l = length l.any
