use Rattle.round_program.proofs.Epochs.{every_run}
use Rattle.round_program.proofs.theorems.every_run.Goals as goal

pub returns : goal.returns
returns g c = every_run g.Q.Program.rules g.met.Q.Program.laws
