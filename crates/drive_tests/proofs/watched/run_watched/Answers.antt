use Rattle.std.proofs.Common.{refl}
use Rattle.port_bank.specs.Port.{IsSlots}
use Rattle.drive_tests.proofs.watched.run_watched.Goals as goal

pub drive_with-requires-clause-slots : goal.drive_with-requires-clause-slots
unfolding IsSlots
drive_with-requires-clause-slots g c κs within = refl

pub drive_threads-requires-clause-slots : goal.drive_threads-requires-clause-slots
unfolding IsSlots
drive_threads-requires-clause-slots g c κs within = refl
