use Rattle.convey.proofs.Exchange.{stays_together, is_step}
use Rattle.convey.proofs.law.exchange_law.Goals as goal

pub returns-clause-together : goal.returns-clause-together
returns-clause-together c = λ dims cap slots r old new sent sent' got got' t call. stays_together dims cap slots r old new sent sent' got got' t call

pub returns-clause-step : goal.returns-clause-step
returns-clause-step c = λ dims cap slots r step old new sent sent' got got' t call named own. is_step dims cap slots r old new sent sent' got got' t call step named own
