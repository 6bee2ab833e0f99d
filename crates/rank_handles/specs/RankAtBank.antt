-- What is kept of a rank at its bank.
use Rattle.std.specs.Prelude.{◌≡◌, ℕ, ◌<◌, Bool, true, false, length, slice_index_or, slice_set, Option, Some, None}
use Rattle.std.specs.Prelude.{is_some, List, [], Result, OnOk, OnErr}
use Rattle.item_buffer.specs.Capacity.{IsCap}
use Rattle.route_tensor.specs.Grid.{ranks}
use Rattle.link_slots.specs.Shape.{no_shape}
use Rattle.link_slots.specs.SeatView.{BankIdentity, SeatView, posted_on, collected_from}
use Rattle.link_slots.specs.Gathering.{Gathering}
use Rattle.hop_core.specs.declared.phase.Phase.TheVariants.{Dormant, Working}
use Rattle.hop_core.specs.State.{State}
use Rattle.port_bank.specs.Logs.{Logs}
use Rattle.port_bank.specs.Machine.{Step}
use Rattle.convey.specs.Buffers.{buffers_of}
use Rattle.convey.specs.Parts.{part_of}
use Rattle.convey.specs.Conveyors.{AgreesWith, KeepsAgreement}
use Rattle.rank_handles.specs.declared.statistics.BaleStatistics.{BaleStatistics}
use Rattle.rank_handles.specs.Statistics.{statistics_on}
use Rattle.rank_handles.specs.Many.{MayAll, after_all}

-- No seat: of no bank, and with no lists.
abbrev pub no_seat : SeatView
no_seat = record {
  id = record { words = 0; slots = 0; views_name = 0; atom = 0; block = 0; offset = 0; slot_names = [] };
  shape = no_shape;
  rank = 0;
  lists = record { outs = []; ins = [] };
  noted = [];
  ended = [];
}

-- The seat that is there.
abbrev pub seat_in : Option SeatView → SeatView
seat_in (Some m) = m
seat_in None = no_seat

-- A seat and a conveyor of one rank at one bank: they agree, and the rank isn't done before it says
-- so.
pub record IsAtBank (bank : BankIdentity) (seat : SeatView) (state : State) : Type 0 where
  pub id : seat.id ≡ bank.id
  pub shape : seat.shape ≡ bank.shape
  pub rank : seat.rank ≡ state.rank
  pub dims : seat.shape.dims ≡ state.dims
  pub agrees : AgreesWith state (posted_on seat) (collected_from seat)
  pub dormant : state.phase ≡ Dormant → state.done ≡ false
  pub working : state.phase ≡ Working → state.done ≡ false

-- The seat is there and at its bank, the counts are those of the conveyor, and the statistics those
-- of the seat.
pub record IsSeatedHandle (bank : BankIdentity) (seat : Option SeatView) (state : State) (count epoch : ℕ)
    (done : Bool) (statistics : BaleStatistics) : Type 0 where
  pub there : is_some seat ≡ true
  pub at_bank : IsAtBank bank (seat_in seat) state
  pub count_is : count ≡ ranks state.dims
  pub epoch_is : epoch ≡ state.epoch
  pub done_is : done ≡ state.done
  pub counted : statistics ≡ statistics_on (seat_in seat)

-- A gathering seat of the bank, that has given out these ranks' seats.
pub record IsAtGather (bank : BankIdentity) (gather : Gathering) (grid : List ℕ) : Type 0 where
  pub id : gather.id ≡ bank.id
  pub shape : gather.shape ≡ bank.shape
  pub grid_is : grid ≡ bank.shape.dims

-- A rank of the bank whose seat the gathering seat has still to give out, ..
pub record HasSeatFor (bank : BankIdentity) (gather : Gathering) (grid : List ℕ) (rank : ℕ) : Type 0 where
  pub at_gather : IsAtGather bank gather grid
  pub own : rank < ranks grid
  pub here : slice_index_or gather.given rank true ≡ false

-- .. and what it leaves of the gathering seat that it was given out. Without memory nothing is
-- changed.
pub record GaveSeat {T E : Type 0} (rank : ℕ) (old new : Gathering) (result : Result T E) : Type 0 where
  pub gave : OnOk result
      (new ≡ record old { lists = slice_set old.lists rank None; given = slice_set old.given rank true })
  pub unchanged : OnErr result (new ≡ old)

-- A group: its ranks are those that the gathering seat has given out.
pub record IsGroup (cap : ℕ) (bank : BankIdentity) (gather : Gathering) (grid : List ℕ) (given : List Bool) : Type 0 where
  pub cap_is : IsCap cap
  pub at_gather : IsAtGather bank gather grid
  pub given_is : gather.given ≡ given
  pub given_all : length given ≡ ranks grid

-- Calls on a conveyor that its port doesn't see made these steps, over whatever lists the port has.
pub record RunOf (steps : List Step) (old new : State) : Type 0 where
  pub may : (sent got : Logs) → AgreesWith old sent got → MayAll steps (part_of (buffers_of old) sent got)
  pub is : (sent got : Logs) → AgreesWith old sent got
      → part_of (buffers_of new) sent got ≡ after_all steps (part_of (buffers_of old) sent got)
  pub kept : KeepsAgreement old new
  pub same : new ≡ record old { outs = new.outs; ins = new.ins; pulled = new.pulled }
