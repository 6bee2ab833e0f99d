use Rattle.round_program.specs.EitherLaws as either
use Rattle.round_program.proofs.theorems.case_of_case.Goals as goal

pub returns : goal.returns
returns g c i w j v p q = either.case_of_case p q
