use Rattle.std.proofs.Common.{refl}
use Rattle.port_bank.specs.Port.{IsSlots}
use Rattle.item_buffer.specs.Capacity.{IsCapacity}
use Rattle.drive_tests.proofs.asking_thread_tests.by_hand.Goals as goal

pub bi_threads-requires-clause-capacity : goal.bi_threads-requires-clause-capacity
unfolding IsCapacity
bi_threads-requires-clause-capacity g c κs within = refl

pub bi_threads-requires-clause-slots : goal.bi_threads-requires-clause-slots
unfolding IsSlots
bi_threads-requires-clause-slots g c κs within = refl
