use Rattle.std.proofs.Common.{refl}
use Rattle.port_bank.specs.Port.{IsSlots}
use Rattle.drive_tests.proofs.asking_thread_tests.ask_here.Goals as goal

pub thread_with-requires-clause-slots : goal.thread_with-requires-clause-slots
unfolding IsSlots
thread_with-requires-clause-slots g c κs within = refl
