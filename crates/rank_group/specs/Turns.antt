-- A run of all ranks of a drive on one thread, turn by turn.
use Rattle.std.specs.Prelude.{◌≡◌, ◌≢◌, ℕ, ◌+◌, zero, suc, if◌then◌else◌, List, [], ◌∷◌, length, slice_get, Some}
use Rattle.port_bank.specs.Logs.{Logs}
use Rattle.round_program.specs.Rules.{Rules}
use Rattle.rank_node.specs.Movers.{Manner}
use Rattle.port_bank.specs.Plain.{Bank, sent_of, got_of, empty_bank}
use Rattle.rank_group.specs.Ranks.{RankState, AfterRank}
use Rattle.rank_group.specs.Drives.{progs_of, AreFresh}

-- All ranks, the logs of all links and the number of turns so far, at one moment.
pub record Scene (S : Type 0) : Type 0 where
  pub ranks : List (RankState S)
  pub sent : Logs
  pub got : Logs
  pub turns : ℕ

-- How many turns a rank makes in a sweep: one, or none if its run is over.
abbrev pub turn_count : {S : Type 0} → RankState S → ℕ
turn_count n = if n.over then 0 else 1

-- All ranks over a plain bank, after this many turns.
abbrev pub scene_of : {S : Type 0} → Bank → List (RankState S) → ℕ → Scene S
scene_of b rs turns = record { ranks = rs; sent = sent_of b; got = got_of b; turns = turns }

-- Of two lists of equal length only the elements at place r may differ.
pub record OnlyAt {X : Type 0} (r : ℕ) (old new : List X) : Type 0 where
  pub all : length new ≡ length old
  pub others : (k : ℕ) → k ≢ r → slice_get new k ≡ slice_get old k

-- From moment a to moment b rank r was turned, and no other, and its turns were counted.
pub record IsTurnOf {S : Type 0} (R : Rules S) (dims : List ℕ) (cap slots r : ℕ) (a b : Scene S) : Type 0 where
  pub only : OnlyAt r a.ranks b.ranks
  pub turned : (n n' : RankState S) → slice_get a.ranks r ≡ Some n → slice_get b.ranks r ≡ Some n'
      → AfterRank R dims cap slots r n n' a.sent a.got b.sent b.got
  pub counted : (n : RankState S) → slice_get a.ranks r ≡ Some n → b.turns ≡ a.turns + turn_count n

-- The step relation applied to each element of a list, one after the other: `step r a b` says what
-- happens to r between the moments a and b.
-- For the list 2, 0 there is a moment in between: before it the step of 2, after it that of 0.
abbrev pub InTurn : {X : Type 0} → (ℕ → X → X → Type 0) → List ℕ → X → X → Type 0
InTurn {X} step [] a b = b ≡ a
InTurn {X} step (r ∷ rs) a b = (m : X) × step r a m × InTurn step rs m b

-- The same list, this many times.
abbrev pub InSweeps : {X : Type 0} → (ℕ → X → X → Type 0) → List ℕ → ℕ → X → X → Type 0
InSweeps {X} step order zero a b = b ≡ a
InSweeps {X} step order (suc k) a b = (m : X) × InTurn step order a m × InSweeps step order k m b

-- From moment a to moment b the ranks of a list were turned, one after the other, and no other.
abbrev pub TurnsOf : {S : Type 0} → Rules S → List ℕ → ℕ → ℕ → List ℕ → Scene S → Scene S → Type 0
TurnsOf R dims cap slots rs a b = InTurn (IsTurnOf R dims cap slots) rs a b

-- From moment a to moment b this many sweeps were made in one order.
abbrev pub SweepsOf : {S : Type 0} → Rules S → List ℕ → ℕ → ℕ → List ℕ → ℕ → Scene S → Scene S → Type 0
SweepsOf R dims cap slots order k a b = InSweeps (IsTurnOf R dims cap slots) order k a b

-- The programs `starts` were run over a plain bank, with this many slots a link, in sweeps of one
-- order and no other turn. The turns are counted from `before` to `after`; the programs ended as
-- `ends`.
pub record SweptBy {S : Type 0} (R : Rules S) (dims : List ℕ) (cap slots : ℕ) (manner : Manner) (starts : List S)
    (order : List ℕ) (before after : ℕ) (ends : List S) : Type 0 where
  pub sweeps : ℕ
  pub first : List (RankState S)
  pub last : Scene S
  pub fresh : AreFresh R dims cap manner starts first
  pub ended : progs_of last.ranks ≡ ends
  pub counted : last.turns ≡ after
  pub swept : SweepsOf R dims cap slots order sweeps
      (scene_of (empty_bank dims slots) first before) last
