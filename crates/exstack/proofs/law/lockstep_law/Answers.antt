use Rattle.exstack.proofs.Lockstep.{room, arrival}
use Rattle.exstack.proofs.law.lockstep_law.Goals as goal

pub returns-clause-room : goal.returns-clause-room
returns-clause-room c = λ ranks cap slots n all sent got t r b lr lb past due. room ranks cap slots n all sent got t r b lr lb past due

pub returns-clause-arrival : goal.returns-clause-arrival
returns-clause-arrival c = λ ranks cap slots n all sent got t r a lr la posted due. arrival ranks cap slots n all sent got t a r la lr posted due
