-- The rest law: if a sweep over the conveyors of all ranks moved nothing, the least epoch is
-- over.
use Rattle.std.specs.Prelude.{◌≡◌, ◌⊎◌, ℕ, ◌<◌, ◌≤◌, true, false, List, [], length, slice_get, Some}
use Rattle.bale_items.specs.declared.item.Entry.{Entry}
use Rattle.route_tensor.specs.Grid.{ranks, IsGrid}
use Rattle.route_tensor.specs.Link.{links}
use Rattle.route_tensor.specs.Ends.{hop_at, sender_at, reader_at}
use Rattle.port_bank.specs.Logs.{Logs, starting_at, ending_at}
use Rattle.port_bank.specs.Link.{LinkLaw}
use Rattle.hop_core.specs.State.{State}
use Rattle.convey.specs.Buffers.{buffers_of, out_of, in_of}
use Rattle.list_laws.specs.Lists.{Ends}
use Rattle.convey.specs.Conveyors.{AgreesWith}
use Rattle.convey.specs.Arrived.{HasArrived}
use Rattle.convey.specs.Due.{WantsParcel, IsOver, NextIs}

-- A link with parcels in transit: posted, and not collected.
abbrev pub IsBusy : Logs → Logs → ℕ → Type 0
IsBusy sent got l = length (got l) < length (sent l)

-- Of a rank's links out there is one with parcels in transit.
pub record HasBusy (dims : List ℕ) (r : ℕ) (sent got : Logs) : Type 0 where
  pub link : ℕ
  pub below : link < links dims
  pub sender : sender_at dims link ≡ r
  pub busy : IsBusy sent got link

-- What holds of rank r after an advance that moved no parcel, if the lists of the bank are sent and
-- got: old is its conveyor just before that advance, and new just after it.
-- pushed: it is done; else a push was refused, and one of its links out is busy.
-- read: all that came for it was pulled.
-- lies, kept: of its inboxes, none lost an entry but by passing it on, and none below the last hop
-- passed one on.
-- idle: if an inbox wanted a parcel, all that was posted there was collected.
-- stopped: where entries are left in an inbox below the last hop, the next link of the first one is
-- busy.
-- closing: a link out that may be closed, and isn't, is busy.
pub record IsAtRest (dims : List ℕ) (r : ℕ) (old new : State) (sent got : Logs) : Type 0 where
  pub same_dims : new.dims ≡ old.dims
  pub same_rank : new.rank ≡ old.rank
  pub same_epoch : new.epoch ≡ old.epoch
  pub agrees : AgreesWith old (starting_at dims r sent) (ending_at dims r got)
  pub pushed : (new.done ≡ true) ⊎ HasBusy dims r sent got
  pub read : (l : ℕ) → l < links dims → reader_at dims l ≡ r → hop_at dims l ≡ length dims
      → (in_of old l).parcel.untaken ≡ []
  pub lies : (l : ℕ) → l < links dims → reader_at dims l ≡ r
      → Ends (in_of old l).parcel.untaken (in_of new l).parcel.untaken
  pub kept : (l : ℕ) → l < links dims → reader_at dims l ≡ r → hop_at dims l < length dims
      → length (in_of old l).parcel.untaken ≤ length (in_of new l).parcel.untaken
  pub idle : (l : ℕ) → l < links dims → reader_at dims l ≡ r → WantsParcel old l → length (got l) ≡ length (sent l)
  pub stopped : (l : ℕ) (e : Entry) → l < links dims → reader_at dims l ≡ r → hop_at dims l < length dims
      → slice_get (in_of new l).parcel.untaken 0 ≡ Some e
      → NextIs dims r l e.tag (IsBusy sent got)
  pub closing : (l : ℕ) → l < links dims → sender_at dims l ≡ r → (hop_at dims l ≡ 1 → new.done ≡ true)
      → HasArrived (buffers_of new) l
      → (out_of new l).closed ≡ false → IsBusy sent got l

-- A sweep over the conveyors of all ranks of one bank, in which no parcel was posted or collected
-- and no inbox below the last hop shrank. No rank is in an epoch before e; of those that are in it
-- each was advanced, and is at rest.
pub record IsRestingSweep (dims : List ℕ) (cap slots e : ℕ) (old new : ℕ → State) (sent got : Logs) : Type 0 where
  pub grid : IsGrid dims
  pub links_keep : (l : ℕ) → l < links dims → LinkLaw cap slots (sent l) (got l)
  pub same_dims : (r : ℕ) → r < ranks dims → (new r).dims ≡ dims
  pub same_rank : (r : ℕ) → r < ranks dims → (new r).rank ≡ r
  pub agrees : (r : ℕ) → r < ranks dims → AgreesWith (new r) (starting_at dims r sent) (ending_at dims r got)
  pub least : (r : ℕ) → r < ranks dims → e ≤ (new r).epoch
  pub turns : (r : ℕ) → r < ranks dims → (new r).epoch ≡ e → IsAtRest dims r (old r) (new r) sent got

-- The rest law: after such a sweep the epoch is over for each rank that is in it.
abbrev pub RestLaw : Type 0
RestLaw = (dims : List ℕ) (cap slots e : ℕ) (old new : ℕ → State) (sent got : Logs)
    → IsRestingSweep dims cap slots e old new sent got → (r : ℕ) → r < ranks dims → (new r).epoch ≡ e → IsOver (new r)
