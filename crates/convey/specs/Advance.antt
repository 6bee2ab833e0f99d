-- What an advance does to a conveyor, from old to new, and to its port, from port to port'.
use Rattle.std.specs.Prelude.{◌≡◌, ◌≢◌, ℕ, ◌+◌, ◌<◌, ◌≤◌, Bool, true, false, List, ◌++◌, length, slice_get, Some, None}
use Rattle.std.specs.List.{flat_map}
use Rattle.bale_items.specs.Counters.{RoseOrFull}
use Rattle.bale_items.specs.declared.item.Entry.{Entry}
use Rattle.item_buffer.specs.Contents.{Shipped}
use Rattle.list_laws.specs.Lists.{IsPrefix, Ends}
use Rattle.route_tensor.specs.Link.{links}
use Rattle.route_tensor.specs.Ends.{hop_at, sender_at, reader_at}
use Rattle.port_bank.specs.Port.{PortView, is_crowded, is_idle}
use Rattle.port_bank.specs.Frames.{SamePort}
use Rattle.port_bank.specs.Machine.{IsOwnStep}
use Rattle.port_bank.specs.Shapes.{IsConveyorShape}
use Rattle.hop_core.specs.declared.phase.Phase.TheVariants.{Dormant, Working, Complete}
use Rattle.hop_core.specs.State.{State, phase_of, at_end}
use Rattle.convey.specs.declared.progress.Progress.{Progress}
use Rattle.convey.specs.declared.progress.Progress.TheVariants as progress
use Rattle.convey.specs.Arrived.{HasArrived}
use Rattle.convey.specs.Buffers.{buffers_of, is_complete, out_of, in_of}
use Rattle.convey.specs.Conveyors.{AgreesWith, HoldsAtMost}
use Rattle.convey.specs.Due.{WantsParcel, IsOver, WasServed, NextIs, IsHeldUpAt, WasFull, StopsAt, collects_of, posts_below}
use Rattle.convey.specs.Parts.{part_of}
use Rattle.convey.specs.Progress.{progress_of, advance_step}

-- The port is the conveyor's own: of its grid and its rank, and with lists that agree with its
-- buffers.
pub record IsAtPort (st : State) (port : PortView) : Type 0 where
  pub same_dims : port.dims ≡ st.dims
  pub same_rank : port.rank ≡ st.rank
  pub agrees : AgreesWith st port.sent port.got

-- What any call at the port keeps: the conveyor agrees with it again, and both are those of the
-- same rank.
pub record KeepsPort (old new : State)
    (port port' : PortView) : Type 0 where
  pub agrees : AgreesWith new port'.sent port'.got
  pub dims : new.dims ≡ old.dims
  pub rank : new.rank ≡ old.rank
  pub same_port : SamePort port port'

-- The conveyor agrees with the port again, and is that of its rank, in the same epoch; it is done
-- if the caller said so.
-- begun: it isn't Dormant.
-- step: the advance is a step of its part of the exchange machine.
pub record StaysAtPort (told : Bool) (old new : State)
    (port port' : PortView) : Type 0 where
  pub agrees : AgreesWith new port'.sent port'.got
  pub dims : new.dims ≡ old.dims
  pub rank : new.rank ≡ old.rank
  pub steady : new.steady ≡ old.steady
  pub epoch : new.epoch ≡ old.epoch
  pub done : new.done ≡ told
  pub begun : new.phase ≢ Dormant
  pub step : IsOwnStep (advance_step old.done told (is_complete new.phase))
      (part_of (buffers_of old) port.sent port.got) (part_of (buffers_of new) port'.sent port'.got)
  pub same_port : SamePort port port'

-- Which phase an answer means: Complete, if and only if the epoch is over.
pub record HasSettled (told : Bool) (new : State) (answer : Progress) : Type 0 where
  pub is : answer ≡ progress_of new.phase
  pub phase : new.phase ≡ phase_of new
  pub working : told ≡ false → new.phase ≡ Working
  pub over : answer ≡ progress.Complete → IsOver new
  pub completes : IsOver new → answer ≡ progress.Complete

-- The lists only grow, each by one parcel at most, and the parcels posted are of the conveyor's
-- shape: if it isn't steady, an epoch's entries travel in few parcels
-- (`port_bank::few_parcels_law`).
pub record ListsGrow (cap : ℕ) (old : State)
    (port port' : PortView) : Type 0 where
  pub sent_grows : (l : ℕ) → IsPrefix (port.sent l) (port'.sent l)
  pub got_grows : (l : ℕ) → IsPrefix (port.got l) (port'.got l)
  pub one_sent : (l : ℕ) → l < links old.dims → sender_at old.dims l ≡ old.rank
      → length (port'.sent l) ≤ length (port.sent l) + 1
  pub one_got : (l : ℕ) → l < links old.dims → reader_at old.dims l ≡ old.rank
      → length (port'.got l) ≤ length (port.got l) + 1
  pub fills : (l : ℕ) (more : List Shipped) → port'.sent l ≡ port.sent l ++ more
      → IsConveyorShape old.steady cap more
  pub shape : (l : ℕ) → IsConveyorShape old.steady cap (port.sent l) → IsConveyorShape old.steady cap (port'.sent l)

-- What the links in show of the collects.
-- left, unasked: one that wanted none got none, and the port noted nothing of it.
-- rose, idle: of one that wanted a parcel and got none the port has listened since it was asked
-- before, and knows of nothing more, but for what was posted there.
-- lies: an inbox holds the end of what it held and of what came.
pub record WereAsked (old new : State)
    (port port' : PortView) : Type 0 where
  pub left : (l : ℕ) → l < links old.dims → reader_at old.dims l ≡ old.rank → (WantsParcel old l → ⊥)
      → port'.got l ≡ port.got l
  pub unasked : (l : ℕ) → l < links old.dims → reader_at old.dims l ≡ old.rank → (WantsParcel old l → ⊥)
      → port'.noted l ≡ port.noted l
  pub rose : (l : ℕ) → l < links old.dims → reader_at old.dims l ≡ old.rank → WantsParcel old l → port'.got l ≡ port.got l
      → RoseOrFull (port.noted l) (port'.noted l)
  pub idle : (l : ℕ) → l < links old.dims → reader_at old.dims l ≡ old.rank → WantsParcel old l → port'.got l ≡ port.got l
      → port'.sent l ≡ port.sent l → is_idle port' l ≡ true
  pub lies : (l : ℕ) (more : List Shipped) → l < links old.dims → reader_at old.dims l ≡ old.rank
      → port'.got l ≡ port.got l ++ more
      → Ends ((in_of old l).parcel.untaken ++ flat_map (λ p. p.entries) more) (in_of new l).parcel.untaken

-- What the links out show of the posts, if all of them had memory.
-- each: one that is due still was looked at without success.
-- full, ending, closing: if nothing was sent on a link it is crowded if its parcel was full, or
-- if its hop has reached its end and it isn't closed.
-- stopped: where entries are left in an inbox below the last hop, the first one is held up at its
-- next link.
pub record WereServed (cap : ℕ) (old new : State)
    (port port' : PortView) : Type 0 where
  pub each : (l : ℕ) → l < links old.dims → sender_at old.dims l ≡ old.rank
      → WasServed new l (port.looks_out l) (port'.looks_out l) (is_crowded port' l)
  pub full : (l : ℕ) → l < links old.dims → sender_at old.dims l ≡ old.rank → port'.sent l ≡ port.sent l
      → length (out_of old l).parcel.untaken ≡ cap → is_crowded port' l ≡ true
  pub ending : (l : ℕ) → l < links old.dims → sender_at old.dims l ≡ old.rank
      → at_end new.dims new.ins new.done (hop_at new.dims l) ≡ true → (out_of new l).closed ≡ false
      → is_crowded port' l ≡ true
  pub closing : (l : ℕ) → l < links old.dims → sender_at old.dims l ≡ old.rank
      → (hop_at old.dims l ≡ 1 → new.done ≡ true) → HasArrived (buffers_of new) l
      → (out_of new l).closed ≡ false → is_crowded port' l ≡ true
  pub stopped : (l : ℕ) (e : Entry) → l < links old.dims → reader_at old.dims l ≡ old.rank
      → hop_at old.dims l < length old.dims → slice_get (in_of new l).parcel.untaken 0 ≡ Some e
      → NextIs old.dims old.rank l e.tag (IsHeldUpAt cap new port.sent port'.sent (is_crowded port'))

-- A conveyor may advance at a port; the caller says whether its rank is done.
-- begun: it isn't Dormant.
-- at_port: the port is its own.
-- done_stays: a rank that was done in this epoch is done still.
pub record MayAdvance (told : Bool) (st : State) (port : PortView) : Type 0 where
  pub begun : st.phase ≢ Dormant
  pub at_port : IsAtPort st port
  pub done_stays : st.done ≡ true → told ≡ true

-- An advance, whatever it answers.
-- stays: the conveyor agrees with the port again, and made a step of the exchange machine.
-- fits: as at every moment, no open parcel held more than its capacity.
-- complete: in the phase Complete nothing changes but the right to unpull.
-- grows: the lists only grow.
-- asked: what the collects answered.
-- waits: if nothing was sent on a link out, its open parcel begins with what it held.
-- held: an entry is left in an inbox below the last hop only if the open parcel that it goes to
-- was full.
pub record AdvancesAtPort (cap : ℕ) (told : Bool) (old new : State) (port port' : PortView) : Type 0 where
  pub stays : StaysAtPort told old new port port'
  pub fits : HoldsAtMost cap old
  pub complete : old.phase ≡ Complete → new ≡ record old { pulled = None }
  pub grows : ListsGrow cap old port port'
  pub asked : WereAsked old new port port'
  pub waits : (l : ℕ) → l < links old.dims → sender_at old.dims l ≡ old.rank → port'.sent l ≡ port.sent l
      → IsPrefix (out_of old l).parcel.untaken (out_of new l).parcel.untaken
  pub held : (l : ℕ) (e : Entry) → l < links old.dims → reader_at old.dims l ≡ old.rank
      → hop_at old.dims l < length old.dims → slice_get (in_of new l).parcel.untaken 0 ≡ Some e
      → NextIs old.dims old.rank l e.tag (WasFull cap new port.sent port'.sent)

-- An advance that had memory.
-- calls: a collect on each link in that wanted a parcel, in ascending order, and then a post on
-- each link out that was due, in ascending order.
-- served: what the posts answered.
pub record AdvancesInFull (cap : ℕ) (old new : State) (port port' : PortView) : Type 0 where
  pub calls : port'.calls ≡ (port.calls ++ collects_of old) ++ posts_below new port.sent port'.sent (links new.dims)
  pub served : WereServed cap old new port port'

-- An advance without memory.
-- phase: the phase is as before.
-- at: the posts end at one that found no memory.
pub record AdvanceStops (old new : State) (port port' : PortView) : Type 0 where
  pub phase : new.phase ≡ old.phase
  pub at : StopsAt new port.sent port'.sent (port.calls ++ collects_of old) port'.calls
