use Rattle.round_program.proofs.Injections.{same_runs}
use Rattle.round_program.proofs.theorems.same_runs.Goals as goal

pub returns : goal.returns
returns g c = same_runs g.A.Program.rules g.B.Program.rules
