use Rattle.elastic.proofs.Runs.{each_letter_once}
use Rattle.elastic.proofs.theorems.letters_once.Goals as goal

pub returns : goal.returns
returns g c = each_letter_once g.Q.LetterProgram.rules g.met.Q.LetterProgram.laws
