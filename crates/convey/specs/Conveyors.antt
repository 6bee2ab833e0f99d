-- What contracts see of a conveyor.
use Rattle.std.specs.Prelude.{◌≡◌, ℕ, ◌<◌, ◌≤◌, true, List, [], length, Some, None}
use Rattle.bale_items.specs.declared.item.Item.{Item}
use Rattle.route_tensor.specs.Grid.{ranks, IsGrid}
use Rattle.route_tensor.specs.Link.{links}
use Rattle.route_tensor.specs.Ends.{hop_at, sender_at}
use Rattle.port_bank.specs.Logs.{Logs}
use Rattle.port_bank.specs.Flow.{hop_link}
use Rattle.hop_core.specs.declared.phase.Phase.TheVariants.{Cleanup, Complete}
use Rattle.hop_core.specs.State.{State, all_closed, phase_of, with_pushed, lowest_unread, pull_from, pulled_from}
use Rattle.port_bank.specs.Machine.{Step, IsOwnStep}
use Rattle.port_bank.specs.Machine.Step.{Push, Pull, Idle}
use Rattle.convey.specs.Buffers.{buffers_of, out_of, in_of}
use Rattle.convey.specs.Agreement.{Agrees}
use Rattle.convey.specs.Law.{IsSound}
use Rattle.convey.specs.Parts.{part_of}

-- What holds of a conveyor for parcels of cap entries at every moment.
pub record ConveyorInvariant (cap : ℕ) (st : State) : Type 0 where
  pub grid : IsGrid st.dims
  pub rank : st.rank < ranks st.dims
  pub sound : IsSound (buffers_of st)
  pub cap_is : st.cap ≡ cap

-- A port with these lists agrees with a conveyor.
abbrev pub AgreesWith : State → Logs → Logs → Type 0
AgreesWith st sent got = Agrees (buffers_of st) sent got

-- A call is a step of the rank's part of the exchange machine, over the lists of a port that the
-- call doesn't see.
abbrev pub IsStepOf : Step → State → State → Type 0
IsStepOf step old new = (sent got : Logs) → AgreesWith old sent got
    → IsOwnStep step (part_of (buffers_of old) sent got) (part_of (buffers_of new) sent got)

-- A call keeps the agreement with a port that it doesn't see.
abbrev pub KeepsAgreement : State → State → Type 0
KeepsAgreement old new = (sent got : Logs) → AgreesWith old sent got → AgreesWith new sent got

-- A call that the port doesn't see: the conveyor stays that of its rank, and keeps the agreement.
pub record StaysWithRank (old new : State) : Type 0 where
  pub dims : new.dims ≡ old.dims
  pub rank : new.rank ≡ old.rank
  pub kept : KeepsAgreement old new

-- A rank's conveyor on which nothing was done.
pub record IsUnusedConveyor (dims : List ℕ) (r : ℕ) (st : State) : Type 0 where
  pub same_dims : st.dims ≡ dims
  pub same_rank : st.rank ≡ r
  pub agrees : AgreesWith st (λ l. []) (λ l. [])
  pub sound : IsSound (buffers_of st)

-- The next pull gives this item of this sender: it is a step of the rank's part of the exchange
-- machine, and keeps the agreement.
pub record GivesNext (st : State) (from : ℕ) (item : Item) : Type 0 where
  pub value : pull_from st (lowest_unread st) ≡ Some (from, item)
  pub sender : from < ranks st.dims
  pub step : IsStepOf (Pull from item) st (pulled_from st (lowest_unread st))
  pub kept : KeepsAgreement st (pulled_from st (lowest_unread st))

-- How many entries are in the open parcel toward a rank.
abbrev pub open_count_toward : State → ℕ → ℕ
open_count_toward st to = length (out_of st (hop_link st.dims st.rank to 1)).parcel.untaken

-- A push puts the item into the open parcel toward its rank, which has room.
pub record PutsItem (cap to : ℕ) (item : Item) (old new : State) : Type 0 where
  pub room : open_count_toward old to < cap
  pub state : new ≡ with_pushed item to old
  pub step : IsStepOf (Push to item) old new

-- A push finds the open parcel toward its rank full.
pub record FindsNoRoom (cap to : ℕ) (old new : State) : Type 0 where
  pub full : open_count_toward old to ≡ cap
  pub state : new ≡ record old { pulled = None }
  pub step : IsStepOf Idle old new

-- A pull finds every link of the last hop without an unread item.
pub record FindsNoItem (old new : State) : Type 0 where
  pub none_unread : (l : ℕ) → l < links old.dims → hop_at old.dims l ≡ length old.dims
      → (in_of old l).parcel.untaken ≡ []
  pub state : new ≡ record old { pulled = None }
  pub step : IsStepOf Idle old new

-- No open parcel holds more than so many entries.
abbrev pub HoldsAtMost : ℕ → State → Type 0
HoldsAtMost cap st = (l : ℕ) → l < links st.dims → sender_at st.dims l ≡ st.rank
    → length (out_of st l).parcel.untaken ≤ cap

-- What the code keeps of a conveyor: the routes have its number of hops, in the phase Cleanup each
-- link out is closed, and in the phase Complete all that the phase says still holds.
pub record IsConveyor (hops : ℕ) (st : State) : Type 0 where
  pub hops_all : length st.dims ≡ hops
  pub sent : st.phase ≡ Cleanup → all_closed st.outs ≡ true
  pub complete : st.phase ≡ Complete → phase_of st ≡ Complete
  pub none_back : st.phase ≡ Complete → st.pulled ≡ None
