-- What both transports guarantee of the epochs of all ranks.
use Rattle.convey.specs.Law as conveyors
use Rattle.exstack.specs.Law as exstacks
use Rattle.exstack.specs.Law.{CyclesLaw}
use Rattle.exstack.specs.Lockstep.{RoomLaw, ArrivalLaw}

-- If all ranks agree with one bank, then in each epoch that some rank has completed every rank was
-- done, and that rank pulled all that was pushed toward it: over conveyors, and over exstacks.
-- room, arrival, cycles: over exstacks, ranks that have finished equally many rounds don't block
-- each other, and what a reader got in a cycle its sender sent in the same cycle.
pub record ClosesLaws : Type 0 where
  pub conveyors : conveyors.ClosesLaw
  pub exstacks : exstacks.StackClosesLaw
  pub room : RoomLaw
  pub arrival : ArrivalLaw
  pub cycles : CyclesLaw
