use Rattle.bale_answers.proofs.Serial.{of_words}
use Rattle.bale_answers.proofs.laws.words_law.Goals as goal

pub returns : goal.returns
returns c = of_words
