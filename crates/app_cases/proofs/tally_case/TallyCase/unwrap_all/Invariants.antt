use Rattle.std.proofs.Common.{length}
use Rattle.app_cases.proofs.Moving.{Moved}
use Rattle.app_cases.proofs.tally_case.TallyCase.unwrap_all.Given as goal

abbrev pub invariant-loop-case : goal.invariant-loop-case
invariant-loop-case l = Moved l.fn.cases l.all l.cases

abbrev pub decreases-loop-case : goal.decreases-loop-case
decreases-loop-case l = length l.cases
