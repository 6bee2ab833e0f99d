-- All ranks over two plain banks, and what a sweep over them does.
use Rattle.std.specs.Prelude.{◌≡◌, ℕ, ◌+◌, ◌*◌, ◌<◌, ◌≤◌, ◌&&◌, Bool, List, length, map, Some, slice_get}
use Rattle.std.specs.List.{sum_by}
use Rattle.route_tensor.specs.Grid.{ranks}
use Rattle.route_tensor.specs.Link.{links}
use Rattle.route_tensor.specs.Ends.{reader_at}
use Rattle.port_bank.specs.Plain.{Bank, IsBank, sent_of, got_of}
use Rattle.convey.specs.Buffers.{in_of, is_complete}
use Rattle.round_program.specs.Talks.{Talk}
use Rattle.rank_group.specs.Ranks.{IsOrder, crowded_in, idle_in}
use Rattle.query_node.specs.States.{BiState, Sides}
use Rattle.query_node.specs.Still.{Known, IsStuckBoth}
use Rattle.query_node.specs.Ranks.{sides_at, HasBiRank}
use Rattle.biconvey.specs.ConveyorsOverBank.{bi_moves, AreConveyorsOver, AfterBiAdvance}

-- The logs of a plain bank of queries and of one of replies.
abbrev pub sides_of : Bank → Bank → Sides
sides_of q r = record { asking = sent_of q; asked = got_of q; replying = sent_of r; replied = got_of r }

-- Two banks of the same grid, capacity and number of slots.
pub record AreBanks (cap : ℕ) (dims : List ℕ) (slots : ℕ) (q r : Bank) : Type 0 where
  pub queries : IsBank cap q
  pub replies : IsBank cap r
  pub queries_dims : q.dims ≡ dims
  pub replies_dims : r.dims ≡ dims
  pub queries_slots : q.slots ≡ slots
  pub replies_slots : r.slots ≡ slots

-- What is true of the links of rank r, by the logs of all ranks.
abbrev pub known_at : List ℕ → ℕ → ℕ → Sides → Known
known_at dims slots r s = record {
  crowded = crowded_in dims slots r s.asking s.asked;
  idle = idle_in dims r s.asking s.asked;
  replies_crowded = crowded_in dims slots r s.replying s.replied;
  replies_idle = idle_in dims r s.replying s.replied;
}

-- Whether a rank's queries and replies are both complete.
abbrev pub is_over : {S : Type 0} → BiState S → Bool
is_over n = is_complete n.queries.phase && is_complete n.replies.phase

-- What a turn of rank r does.
pub record AfterBiRank {S : Type 0} (T : Talk S) (dims : List ℕ) (cap slots r : ℕ) (n n' : BiState S)
    (s s' : Sides) : Type 0 where
  pub queries : AfterBiAdvance dims cap r n.queries n'.queries s.asking s.asked s'.asking s'.asked
  pub replies : AfterBiAdvance dims cap r n.replies n'.replies s.replying s.replied s'.replying s'.replied
  pub kept : (start : S) → HasBiRank T dims r start n s → HasBiRank T dims r start n' s'
  pub stuck : (start : S) → HasBiRank T dims r start n s → s' ≡ s
      → IsStuckBoth n n' (sides_at dims r s) (sides_at dims r s') (known_at dims slots r s')

-- A rank is blocked: its last turn moved no parcel, and took no entry out of an inbox.
pub record IsBlockedBiRank {S : Type 0} (T : Talk S) (dims : List ℕ) (slots r : ℕ) (n : BiState S) (s : Sides) : Type 0 where
  pub before : BiState S
  pub start : S
  pub has : HasBiRank T dims r start before s
  pub kept_queries : (l : ℕ) → l < links dims → reader_at dims l ≡ r
      → length (in_of before.queries l).parcel.untaken ≤ length (in_of n.queries l).parcel.untaken
  pub kept_replies : (l : ℕ) → l < links dims → reader_at dims l ≡ r
      → length (in_of before.replies l).parcel.untaken ≤ length (in_of n.replies l).parcel.untaken
  pub stuck : IsStuckBoth before n (sides_at dims r s) (sides_at dims r s) (known_at dims slots r s)

-- All ranks over two banks; rank r began in the state `starts r`.
pub record BiRanksOnBanks {S : Type 0} (T : Talk S) (dims : List ℕ) (cap slots : ℕ) (steady : Bool) (starts : ℕ → S)
    (ns : List (BiState S)) (s : Sides) : Type 0 where
  pub queries : AreConveyorsOver dims cap slots steady (map (λ n. n.queries) ns) s.asking s.asked
  pub replies : AreConveyorsOver dims cap slots steady (map (λ n. n.replies) ns) s.replying s.replied
  pub some : 0 < slots
  pub some_cap : 0 < cap
  pub each : (r : ℕ) (n : BiState S) → slice_get ns r ≡ Some n → HasBiRank T dims r (starts r) n s

-- Ranks that a drive may turn over two plain banks, in sweeps of the order given.
pub record MaySweepBoth {S : Type 0} (T : Talk S) (cap : ℕ) (q r : Bank) (given : List ℕ)
    (ns : List (BiState S)) : Type 0 where
  pub order : IsOrder (ranks q.dims) given
  pub banks : AreBanks cap q.dims q.slots q r
  pub steady : Bool
  pub starts : ℕ → S
  pub on_bank : BiRanksOnBanks T q.dims cap q.slots steady starts ns (sides_of q r)

-- Between two moments no link carried more parcels than there were turns.
abbrev pub PostedWithin : List ℕ → Sides → ℕ → Sides → ℕ → Type 0
PostedWithin dims s steps s' steps' = (l : ℕ) → l < links dims
    → (length (s'.asking l) + steps ≤ length (s.asking l) + steps')
    × (length (s'.replying l) + steps ≤ length (s.replying l) + steps')

-- How much has moved in both directions.
abbrev pub all_moves : {S : Type 0} → List ℕ → List (BiState S) → Sides → ℕ
all_moves dims ns s =
    bi_moves dims (map (λ n. n.queries) ns) s.asking s.asked + bi_moves dims (map (λ n. n.replies) ns) s.replying s.replied

-- What the turns of the first i ranks of a sweep do to all ranks.
-- rests: if nothing moved, each rank that was turned is blocked.
pub record AfterSomeBiTurns {S : Type 0} (T : Talk S) (dims : List ℕ) (cap slots : ℕ) (steady : Bool) (starts : ℕ → S)
    (order : List ℕ) (i : ℕ) (ns0 : List (BiState S)) (s0 : Sides) (ns : List (BiState S)) (s : Sides) : Type 0 where
  pub on_bank : BiRanksOnBanks T dims cap slots steady starts ns s
  pub grown : all_moves dims ns0 s0 ≤ all_moves dims ns s
  pub rests : all_moves dims ns s ≤ all_moves dims ns0 s0 → (j r : ℕ) → j < i → slice_get order j ≡ Some r
      → (n : BiState S) → slice_get ns r ≡ Some n → IsBlockedBiRank T dims slots r n s

-- How many queries the ranks have.
abbrev pub queries_in : {S : Type 0} → Talk S → List (BiState S) → ℕ
queries_in T ns = sum_by (λ n. length (T.queries n.asker)) ns

-- An upper bound on the turns of an exchange of this many queries. Each sweep but the last moves
-- something in one of the directions, and a parcel or an entry moves only a bounded number of
-- times.
-- For two ranks in one hop and three queries it is 2 * 2 * (3 * 4 + 2 * 4 + 1) = 84.
abbrev pub bi_turns_of : List ℕ → ℕ → ℕ
bi_turns_of dims queries = 2 * (ranks dims * (queries * (3 * length dims + 1) + 2 * links dims + 1))
