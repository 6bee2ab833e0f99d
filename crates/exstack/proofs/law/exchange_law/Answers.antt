use Rattle.exstack.proofs.Exchange.{stays_together, is_step, are_steps}
use Rattle.exstack.proofs.law.exchange_law.Goals as goal

pub returns-clause-together : goal.returns-clause-together
returns-clause-together c = λ ranks cap slots r old new sent sent' got got' t call. stays_together ranks cap slots r old new sent sent' got got' t call

pub returns-clause-step : goal.returns-clause-step
returns-clause-step c = λ ranks cap slots r step old new sent sent' got got' t call named own. is_step ranks cap slots r old new sent sent' got got' t call step named own

pub returns-clause-proceed : goal.returns-clause-proceed
returns-clause-proceed c = λ ranks cap slots r was now complete old new sent sent' got got' t call own. are_steps ranks cap slots r old new sent sent' got got' t call was now complete own
