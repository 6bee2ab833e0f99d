use Rattle.bale_answers.proofs.Serial.{means}
use Rattle.bale_answers.proofs.laws.answer_law.Goals as goal

pub returns : goal.returns
returns c = means
