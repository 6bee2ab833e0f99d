use Rattle.std.proofs.Common.{length}
use Rattle.app_cases.proofs.Moving.{Put}
use Rattle.app_cases.proofs.ways.put_all.Given as goal

abbrev pub invariant-loop-prog : goal.invariant-loop-prog
invariant-loop-prog g l = Put g.A.Case.case_of l.fn.progs l.all l.progs

abbrev pub decreases-loop-prog : goal.decreases-loop-prog
decreases-loop-prog g l = length l.progs
