use Rattle.std.proofs.Common.{refl}
use Rattle.port_bank.specs.Port.{IsSlots}
use Rattle.item_buffer.specs.Capacity.{IsCapacity}
use Rattle.drive_tests.proofs.asking_tests.by_hand.Goals as goal

pub bi_serial-requires-clause-capacity : goal.bi_serial-requires-clause-capacity
unfolding IsCapacity
bi_serial-requires-clause-capacity g c = refl

pub bi_serial-requires-clause-slots : goal.bi_serial-requires-clause-slots
unfolding IsSlots
bi_serial-requires-clause-slots g c = refl
