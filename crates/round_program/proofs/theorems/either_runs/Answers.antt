use Rattle.round_program.specs.EitherLaws.{left_is_case, right_is_case}
use Rattle.round_program.proofs.theorems.either_runs.Goals as goal

pub returns-clause-left : goal.returns-clause-left
returns-clause-left g c = left_is_case g.A.Program.rules g.B.Program.rules

pub returns-clause-right : goal.returns-clause-right
returns-clause-right g c = right_is_case g.A.Program.rules g.B.Program.rules
