use Rattle.std.proofs.Common.{refl}
use Rattle.port_bank.specs.Port.{IsSlots}
use Rattle.drive_tests.proofs.asking_tests.ask.Goals as goal

pub drive_both-requires-clause-slots : goal.drive_both-requires-clause-slots
unfolding IsSlots
drive_both-requires-clause-slots g c = refl
