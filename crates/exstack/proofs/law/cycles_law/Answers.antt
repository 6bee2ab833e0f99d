use Rattle.exstack.proofs.BothEnds.{exchanges_meet}
use Rattle.exstack.proofs.law.cycles_law.Goals as goal

pub returns : goal.returns
returns c = λ e n p sent got b. exchanges_meet e n p sent got b
