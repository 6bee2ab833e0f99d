-- What contracts see of a rank, and which step of the exchange machine a call on it makes.
use Rattle.std.specs.Prelude.{◌≡◌}
use Rattle.port_bank.specs.Machine.{Part, Step, IsOwnStep}
use Rattle.link_slots.specs.SeatView.{SeatView, posted_on, collected_from}
use Rattle.hop_core.specs.declared.phase.Phase.{Phase}
use Rattle.hop_core.specs.State.{State}
use Rattle.convey.specs.Buffers.{buffers_of}
use Rattle.convey.specs.Parts.{part_of}

-- A rank at its bank: its seat, which tells what it sent and got, and the state of its conveyor.
pub record Seated : Type 0 where
  pub seat : SeatView
  pub state : State

-- The rank's part of the exchange machine: its epoch, whether it is done and complete in it, and
-- the items that it pushed toward each rank and pulled of each, in each epoch.
abbrev pub part : Seated → Part
part s = part_of (buffers_of s.state) (posted_on s.seat) (collected_from s.seat)

-- That a call made this step, and left the rank in this phase. Its bank, its grid and its number
-- stay.
pub record Move (step : Step) (phase : Phase) (old new : Seated) : Type 0 where
  pub step_of : IsOwnStep step (part old) (part new)
  pub phase_is : new.state.phase ≡ phase
  pub bank : new.seat.id ≡ old.seat.id
  pub shape : new.seat.shape ≡ old.seat.shape
  pub rank : new.state.rank ≡ old.state.rank
  pub dims : new.state.dims ≡ old.state.dims

-- A call made this step.
unfoldable pub Moved : Step → Phase → Seated → Seated → Type 0
Moved step phase old new = Move step phase old new
