-- What contracts see of a closed bank, be it plain or of slots.
use Rattle.std.specs.Prelude.{◌≡◌, ℕ, ◌<◌, Bool, List, [], ◌∷◌, length, min, slice_index_or}
use Rattle.std.specs.List.{All}
use Rattle.bale_items.specs.declared.item.Item.{Item}
use Rattle.item_buffer.specs.Contents.{Shipped}
use Rattle.route_tensor.specs.Grid.{ranks, IsGrid}
use Rattle.route_tensor.specs.Link.{links}
use Rattle.route_tensor.specs.Ends.{hop_at}
use Rattle.port_bank.specs.Logs.{Logs, lasts}
use Rattle.port_bank.specs.Flow.{hop_link, flow}
use Rattle.list_laws.specs.Lists.{IsPrefix}
use Rattle.port_bank.specs.Link.{LinkLaw}
use Rattle.port_bank.specs.Port.{IsSlots}
use Rattle.port_bank.specs.Relay.{HasFairTags}

-- A closed round: the grid, capacity and number of slots per link of its bank, whether that was a
-- slot bank, and for each link the parcels posted and those collected.
pub record Round : Type 0 where
  pub dims : List ℕ
  pub cap : ℕ
  pub slots : ℕ
  pub by_slots : Bool
  pub sent : List (List Shipped)
  pub got : List (List Shipped)

-- The logs of a round, by the number of the link.
abbrev pub logs_of : List (List Shipped) → Logs
logs_of all = λ l. slice_index_or all l []

-- What s posted toward d on hop 1 in epoch e.
-- pushed(e,s,d) is the flow from s to d on hop 1 of what was sent.
-- In the grid 2 rank 0 sends x to 0, then y to 1 in epoch 0: pushed 0 0 1 is [y].
abbrev pub pushed_items : Round → ℕ → ℕ → ℕ → List Item
pushed_items round e s d = flow round.dims (logs_of round.sent) s d 1 e

-- What d collected of s on the last hop in epoch e.
-- pulled(e,d,s) is the flow from s to d on hop k of what was got.
-- There pulled 0 1 0 is [] until rank 1 collects, and then [y].
abbrev pub pulled_items : Round → ℕ → ℕ → ℕ → List Item
pulled_items round e d s = flow round.dims (logs_of round.got) s d (length round.dims) e

-- How many epochs every one of some links has ended.
-- It is 2 for links that have ended 3, 2 and 4 epochs.
abbrev pub ended_by_all : List (List Shipped) → ℕ
ended_by_all [] = 0
ended_by_all (log ∷ []) = lasts log
ended_by_all (log ∷ logs) = min (lasts log) (ended_by_all logs)

-- The same of a round's links, by what was collected.
abbrev pub epochs_of : Round → ℕ
epochs_of round = ended_by_all round.got

-- Over all hops a pair's items arrive in order: what is pulled is a prefix of what was pushed, and
-- it is all of it in an epoch that the last link of the pair's route has ended, so in each epoch
-- that every link has ended.
pub record CloseLaw (round : Round) : Type 0 where
  pub begins : (e s d : ℕ) → s < ranks round.dims → d < ranks round.dims
      → IsPrefix (pulled_items round e d s) (pushed_items round e s d)
  pub ended : (e s d : ℕ) → s < ranks round.dims → d < ranks round.dims
      → e < lasts (logs_of round.got (hop_link round.dims s d (length round.dims)))
      → pulled_items round e d s ≡ pushed_items round e s d
  pub whole : (e s d : ℕ) → s < ranks round.dims → d < ranks round.dims → e < epochs_of round
      → pulled_items round e d s ≡ pushed_items round e s d

-- What holds of every closed round.
-- fair: each entry that was sent has a tag that is fair on the hop of its link, and so belongs to a
-- pair of ranks.
pub record IsRound (round : Round) : Type 0 where
  pub grid : IsGrid round.dims
  pub counts : IsSlots round.slots
  pub all_sent : length round.sent ≡ links round.dims
  pub all_got : length round.got ≡ links round.dims
  pub each_link : (l : ℕ) → l < links round.dims
      → LinkLaw round.cap round.slots (logs_of round.sent l) (logs_of round.got l)
  pub fair : (l : ℕ) → l < links round.dims → All (HasFairTags round.dims (hop_at round.dims l)) (logs_of round.sent l)
  pub in_order : CloseLaw round
