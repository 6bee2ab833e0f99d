use Rattle.convey.proofs.Exchange.{close}
use Rattle.convey.proofs.law.closes_law.Goals as goal

pub returns : goal.returns
returns c = λ dims cap slots all sent got t. close dims cap slots all sent got t
