use Rattle.std.proofs.Common.{length}
use Rattle.app_cases.proofs.Moving.{Moved}
use Rattle.app_cases.proofs.tally_case.TallyCase.wrap_all.Given as goal

abbrev pub invariant-loop-mailer : goal.invariant-loop-mailer
invariant-loop-mailer l = Moved l.fn.mailers l.all l.mailers

abbrev pub decreases-loop-mailer : goal.decreases-loop-mailer
decreases-loop-mailer l = length l.mailers
