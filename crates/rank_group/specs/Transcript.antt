-- What a run exchanged, as its transcript records it.
use Rattle.std.specs.Prelude.{◌≡◌, ℕ, zero, suc, ◌+◌, ◌*◌, ◌<◌, Bool, List, [], ◌∷◌, length, Option, Some, None}
use Rattle.std.specs.Prelude.{slice_get}
use Rattle.bale_items.specs.declared.item.Item.{Item}
use Rattle.route_tensor.specs.Grid.{ranks}
use Rattle.route_tensor.specs.Link.{links}
use Rattle.port_bank.specs.Logs.{lasts, EndsLast}
use Rattle.port_bank.specs.Round.{Round, logs_of, pushed_items, pulled_items}
use Rattle.round_program.specs.Rules.{Rules}
use Rattle.round_program.specs.Canonical.{absorbed_round, states_at, items_at, emitted_by}
use Rattle.round_program.specs.Epochs.{vote_item}
use Rattle.rank_node.specs.Movers.{Manner, IsLogShape}
use Rattle.rank_node.specs.Movers.Manner.{ByConveyor, ByExstack}

-- The shape of a bank: the grid, the capacity of a parcel, the slots of a link, and whether it is a
-- slot bank.
pub record BankShape : Type 0 where
  pub dims : List ℕ
  pub cap : ℕ
  pub slots : ℕ
  pub by_slots : Bool

-- What a program votes, as an item; none if there is no program.
abbrev pub vote_sent : {S : Type 0} → Rules S → Option S → List Item
vote_sent R None = []
vote_sent R (Some s) = vote_item (R.vote s) ∷ []

-- A transcript records a run of n rounds that began in the states `starts`.
-- What holds of every transcript isn't repeated here: see `ClosedRound::ranks` and `epochs`
-- (IsRound).
-- bank: the bank had the given shape.
-- ended, by_last: each link ended two epochs a round, and nothing followed them. collected: every
-- parcel was collected.
-- work: in epoch 2m each rank pushed toward each rank what it emits to it in round m of the
-- canonical run.
-- votes: in epoch 2m + 1 it pushed its one vote on round m.
-- all_came: each rank pulled all that was pushed toward it.
-- shape: each parcel was filled as the transport fills it. Over conveyors that aren't steady an
-- epoch's entries travel in few parcels (port_bank's few_parcels_law).
-- With two ranks and six rounds there are 12 epochs; in each odd one each of the four pairs has one
-- item.
pub record RecordsRun {S : Type 0} (R : Rules S) (starts : List S) (n : ℕ) (made : BankShape) (manner : Manner)
    (round : Round) : Type 0 where
  pub bank : record { dims = round.dims; cap = round.cap; slots = round.slots; by_slots = round.by_slots } ≡ made
  pub ended : (l : ℕ) → l < links round.dims → lasts (logs_of round.sent l) ≡ 2 * n
  pub by_last : (l : ℕ) → l < links round.dims → EndsLast (logs_of round.sent l)
  pub collected : (l : ℕ) → l < links round.dims → logs_of round.got l ≡ logs_of round.sent l
  pub work : (m s d : ℕ) → m < n → s < ranks round.dims → d < ranks round.dims
      → pushed_items round (2 * m) s d ≡ emitted_by R (states_at R starts m) d s
  pub votes : (m s d : ℕ) → m < n → s < ranks round.dims → d < ranks round.dims
      → pushed_items round (2 * m + 1) s d ≡ vote_sent R (slice_get (absorbed_round R (states_at R starts m)) s)
  pub all_came : (e s d : ℕ) → s < ranks round.dims → d < ranks round.dims → pulled_items round e d s ≡ pushed_items round e s d
  pub shape : (l : ℕ) → l < links round.dims → IsLogShape manner round.cap (logs_of round.sent l)

-- An upper bound on the turns of an epoch in which this many items are sent.
-- Over conveyors each turn but P of them moves something, and a parcel or an entry moves only a
-- bounded number of times. Over exstacks two turns of every rank finish a round, and an epoch has
-- at most 2 * items + 1 rounds.
-- For one rank and four items: over conveyors 1 * (4 * 4 + 2 * 1 + 1) = 19, over exstacks 4 * 1 *
-- (4 + 2) = 24.
abbrev pub turns_of : Manner → List ℕ → ℕ → ℕ
turns_of (ByConveyor steady) dims items = ranks dims * (items * (3 * length dims + 1) + 2 * links dims + 1)
turns_of ByExstack dims items = 4 * ranks dims * (items + 2)

-- An upper bound on the turns of the first n rounds of a run: those of each round's work, and those
-- of its votes, one from each rank to each.
-- For one rank, four entries and one round it is 19 + 7 = 26 over conveyors, and 24 + 12 = 36 over
-- exstacks.
abbrev pub turns_within : {S : Type 0} → Rules S → Manner → List ℕ → List S → ℕ → ℕ
turns_within R manner dims starts zero = 0
turns_within R manner dims starts (suc n) =
    turns_within R manner dims starts n
    + (turns_of manner dims (items_at R starts n) + turns_of manner dims (ranks dims * ranks dims))
