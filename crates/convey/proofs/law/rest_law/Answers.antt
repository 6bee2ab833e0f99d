use Rattle.convey.proofs.Quiet.{rest_over}
use Rattle.convey.proofs.law.rest_law.Goals as goal

pub returns : goal.returns
returns c = λ dims cap slots e old new sent got w. rest_over dims cap slots e old new sent got w
