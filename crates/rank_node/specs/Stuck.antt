-- A turn over a conveyor that moved no parcel, and why.
use Rattle.std.specs.Prelude.{◌≡◌, ◌⊎◌, ℕ, ◌<◌, ◌≤◌, Bool, true, false, List, [], length, slice_get, Some}
use Rattle.bale_items.specs.declared.item.Entry.{Entry}
use Rattle.route_tensor.specs.Link.{links}
use Rattle.route_tensor.specs.Ends.{hop_at, sender_at, reader_at}
use Rattle.port_bank.specs.Logs.{Logs}
use Rattle.hop_core.specs.declared.phase.Phase.TheVariants.{Complete}
use Rattle.hop_core.specs.State.{State}
use Rattle.convey.specs.Buffers.{buffers_of, out_of, in_of}
use Rattle.list_laws.specs.Lists.{Ends}
use Rattle.convey.specs.Conveyors.{AgreesWith}
use Rattle.convey.specs.Arrived.{HasArrived}
use Rattle.convey.specs.Due.{WantsParcel, IsOver, NextIs}

-- Some link out of a rank is crowded.
pub record HasCrowded (dims : List ℕ) (rank : ℕ) (is_crowded : ℕ → Bool) : Type 0 where
  pub link : ℕ
  pub below : link < links dims
  pub sender : sender_at dims link ≡ rank
  pub crowded : is_crowded link ≡ true

-- A turn that moved no parcel took a conveyor from c to c'. `before` is the conveyor just before
-- the turn's advance, and `after` just after it: pushes fill open parcels before it, and pulls
-- empty inboxes of the last hop after it.
-- lies: what remains of each inbox is its end.
-- idle: if an inbox wanted a parcel, its link is idle.
-- stopped: if entries remain in an inbox below the last hop, the next link of the first one is
-- crowded.
-- closing: a link out that may be closed, and isn't, is crowded.
-- over: if the epoch is over, the conveyor is complete.
pub record IsStill (c c' : State) (sent got sent' got' : Logs) (is_crowded is_idle : ℕ → Bool) : Type 0 where
  pub before : State
  pub after : State
  pub dims_before : before.dims ≡ c.dims
  pub rank_before : before.rank ≡ c.rank
  pub epoch_before : before.epoch ≡ c.epoch
  pub dims_after : after.dims ≡ before.dims
  pub rank_after : after.rank ≡ before.rank
  pub epoch_after : after.epoch ≡ before.epoch
  pub done_after : after.done ≡ c'.done
  pub ins_before : (l : ℕ) → (in_of before l).parcel.untaken ≡ (in_of c l).parcel.untaken
  pub ins_after : (l : ℕ) → length (in_of c' l).parcel.untaken ≤ length (in_of after l).parcel.untaken
  pub agrees_before : AgreesWith before sent got
  pub agrees_after : AgreesWith after sent' got'
  pub lies : (l : ℕ) → l < links c.dims → reader_at c.dims l ≡ c.rank
      → Ends (in_of before l).parcel.untaken (in_of after l).parcel.untaken
  pub idle : (l : ℕ) → l < links c.dims → reader_at c.dims l ≡ c.rank → WantsParcel before l → is_idle l ≡ true
  pub stopped : (l : ℕ) (e : Entry) → l < links c.dims → reader_at c.dims l ≡ c.rank → hop_at c.dims l < length c.dims
      → slice_get (in_of after l).parcel.untaken 0 ≡ Some e
      → NextIs c.dims c.rank l e.tag (λ m. is_crowded m ≡ true)
  pub closing : (l : ℕ) → l < links c.dims → sender_at c.dims l ≡ c.rank → (hop_at c.dims l ≡ 1 → after.done ≡ true)
      → HasArrived (buffers_of after) l → (out_of after l).closed ≡ false → is_crowded l ≡ true
  pub over : IsOver after → c'.phase ≡ Complete

-- A turn that moved no parcel, of a rank over one conveyor.
-- pushed: the rank is done, or a link out is crowded.
-- read: all that came was pulled.
pub record IsStuck (c c' : State) (sent got sent' got' : Logs) (is_crowded is_idle : ℕ → Bool) : Type 0 where
  pub still : IsStill c c' sent got sent' got' is_crowded is_idle
  pub pushed : (still.after.done ≡ true) ⊎ HasCrowded c.dims c.rank is_crowded
  pub read : (l : ℕ) → l < links c.dims → reader_at c.dims l ≡ c.rank → hop_at c.dims l ≡ length c.dims
      → (in_of still.before l).parcel.untaken ≡ []
