use Rattle.elastic.proofs.Runs.{mailers_run_letters}
use Rattle.elastic.proofs.theorems.mailers_run_letters.Goals as goal

pub returns : goal.returns
returns g c = mailers_run_letters g.Q.LetterProgram.rules g.met.Q.LetterProgram.laws
