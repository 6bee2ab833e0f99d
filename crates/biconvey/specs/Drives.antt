-- An exchange of queries and replies by all ranks: its start and its result.
use Rattle.std.specs.Prelude.{◌≡◌, ℕ, ◌<◌, Bool, List, [], length, map, Option, Some, None, slice_get}
use Rattle.bale_items.specs.declared.item.Item.{Item}
use Rattle.route_tensor.specs.Grid.{ranks}
use Rattle.route_tensor.specs.Link.{links}
use Rattle.port_bank.specs.Logs.{lasts, EndsLast}
use Rattle.port_bank.specs.Round.{Round, logs_of, pushed_items, pulled_items}
use Rattle.port_bank.specs.Shapes.{IsConveyorShape}
use Rattle.rank_group.specs.Transcript.{BankShape}
use Rattle.round_program.specs.Talks.{Talk}
use Rattle.round_program.specs.Replies.{queries_to, answers}
use Rattle.query_node.specs.States.{BiState, IsNewBiNode}

-- Askers for the ranks 0, 1, .., p - 1, in this order.
pub record AreAskers {S : Type 0} (T : Talk S) (p : ℕ) (askers : List S) : Type 0 where
  pub size : length askers ≡ p
  pub each : (r : ℕ) (s : S) → slice_get askers r ≡ Some s → (T.rank s ≡ r) × (T.ranks s ≡ p)

-- The queries of the pair (s,d), and the replies of (d,s); none if there is no such rank.
abbrev pub queries_of : {S : Type 0} → Talk S → Option S → ℕ → List Item
queries_of T None d = []
queries_of T (Some s) d = queries_to T s d

abbrev pub answers_of : {S : Type 0} → Talk S → Option S → ℕ → List Item → List Item
answers_of T None from queries = []
answers_of T (Some s) from queries = answers T s from queries

abbrev pub queries_by : {S : Type 0} → Talk S → List S → ℕ → ℕ → List Item
queries_by T askers s d = queries_of T (slice_get askers s) d

abbrev pub replies_by : {S : Type 0} → Talk S → List S → ℕ → ℕ → List Item
replies_by T askers d s = answers_of T (slice_get askers d) s (queries_by T askers s d)

-- A transcript records one direction of an exchange, in which rank s sends rank d the items `items
-- s d`.
-- What holds of every transcript isn't repeated here: see `ClosedRound::ranks` and `epochs`
-- (IsRound).
-- bank: the bank had the given shape.
-- ended, by_last: each link ended one epoch, and nothing followed it. collected: every parcel was
-- collected.
-- pushed_all: each rank pushed toward each rank what it had for it. all_came: each rank pulled all
-- that was pushed toward it.
-- shape: each parcel was filled as conveyors fill it, steady or not.
pub record RecordsOneWay (made : BankShape) (steady : Bool) (items : ℕ → ℕ → List Item) (round : Round) : Type 0 where
  pub bank : record { dims = round.dims; cap = round.cap; slots = round.slots; by_slots = round.by_slots } ≡ made
  pub ended : (l : ℕ) → l < links round.dims → lasts (logs_of round.sent l) ≡ 1
  pub by_last : (l : ℕ) → l < links round.dims → EndsLast (logs_of round.sent l)
  pub collected : (l : ℕ) → l < links round.dims → logs_of round.got l ≡ logs_of round.sent l
  pub pushed_all : (s d : ℕ) → s < ranks round.dims → d < ranks round.dims → pushed_items round 0 s d ≡ items s d
  pub all_came : (e s d : ℕ) → s < ranks round.dims → d < ranks round.dims → pulled_items round e d s ≡ pushed_items round e s d
  pub shape : (l : ℕ) → l < links round.dims → IsConveyorShape steady round.cap (logs_of round.sent l)

-- Two transcripts record both directions.
pub record RecordsExchange {S : Type 0} (T : Talk S) (askers : List S) (made : BankShape) (steady : Bool)
    (queries replies : Round) : Type 0 where
  pub asking : RecordsOneWay made steady (queries_by T askers) queries
  pub replying : RecordsOneWay made steady (replies_by T askers) replies

-- Rank r before its first turn.
pub record IsFreshBiRank {S : Type 0} (T : Talk S) (dims : List ℕ) (steady : Bool) (r : ℕ) (n : BiState S) : Type 0 where
  pub own_rank : T.rank n.asker ≡ r
  pub new : IsNewBiNode T dims steady n.asker n

-- Ranks before their first turn, one for each asker, in order.
abbrev pub askers_of : {S : Type 0} → List (BiState S) → List S
askers_of ns = map (λ n. n.asker) ns

pub record AreFreshBiRanks {S : Type 0} (T : Talk S) (dims : List ℕ) (steady : Bool) (askers : List S)
    (ns : List (BiState S)) : Type 0 where
  pub same : askers_of ns ≡ askers
  pub each : (r : ℕ) (n : BiState S) → slice_get ns r ≡ Some n → IsFreshBiRank T dims steady r n
