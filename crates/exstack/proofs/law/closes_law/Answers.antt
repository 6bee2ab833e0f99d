use Rattle.exstack.proofs.Exchange.{close}
use Rattle.exstack.proofs.law.closes_law.Goals as goal

pub returns : goal.returns
returns c = λ ranks cap slots all sent got t. close ranks cap slots all sent got t
