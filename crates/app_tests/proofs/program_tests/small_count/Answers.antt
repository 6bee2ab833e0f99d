use Rattle.std.proofs.Common.{refl, lit<, arith}
use Rattle.app_tests.proofs.program_tests.small_count.Goals as goal

pub returns : goal.returns
returns c = record { one_round = record { some = lit< tt; goes = λ m l. absurd (omega arith); stops = refl }; counts = refl }
