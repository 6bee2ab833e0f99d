-- What drives require of programs, and what they guarantee of their run.
use Rattle.std.specs.Prelude.{◌≡◌, ℕ, ◌+◌, ◌*◌, ◌<◌, ◌≤◌, Bool, true, List, [], ◌∷◌, length}
use Rattle.route_tensor.specs.Grid.{ranks}
use Rattle.route_tensor.specs.Link.{links}
use Rattle.port_bank.specs.Round.{logs_of}
use Rattle.round_program.specs.Rules.{Rules}
use Rattle.round_program.specs.Canonical.{InRound, HasRounds, EndsWithin, HaveEnded}
use Rattle.rank_node.specs.declared.via.Via.{Via}
use Rattle.rank_node.specs.declared.via.Via.TheVariants.{Exstack}
use Rattle.rank_node.specs.Movers.{Manner}
use Rattle.rank_group.specs.declared.closed_round.ClosedRound.{ClosedRound}
use Rattle.rank_group.specs.declared.drive.Finished.{Finished}
use Rattle.rank_group.specs.Rounds.{round_inside}
use Rattle.rank_group.specs.Transcript.{BankShape, RecordsRun, turns_within}
use Rattle.rank_group.specs.Turns.{SweptBy}

-- Programs that may be driven on a grid.
pub record MayRun {S : Type 0} (R : Rules S) (dims : List ℕ) (via : Via) (starts : List S) : Type 0 where
  -- Exstacks need a grid of one hop.
  pub one_hop : via ≡ Exstack → length dims ≡ 1
  -- There is one program for each rank, they begin one run in round 0, and that run ends.
  pub begins : (shape : List ℕ) × (most : ℕ) × InRound R (ranks dims) 0 shape most starts × EndsWithin R starts most

-- The result of driving the programs `starts` over a bank of the given shape.
pub record HasFinished {S : Type 0} (R : Rules S) (starts : List S) (made : BankShape) (manner : Manner)
    (run : Finished S) : Type 0 where
  -- The programs end as in the canonical run.
  pub ended : HaveEnded R starts run.progs
  -- One transcript records what was exchanged.
  pub rounds : (c : ClosedRound) × (run.rounds ≡ c ∷ [])
      × ((n : ℕ) → HasRounds R starts n → RecordsRun R starts n made manner (round_inside c))

-- What a drive on one thread further guarantees. It counts its turns, from `before` to `after`.
pub record HasSwept {S : Type 0} (R : Rules S) (starts : List S) (made : BankShape) (manner : Manner) (turned : List ℕ)
    (before after : ℕ) (run : Finished S) : Type 0 where
  -- It made sweeps in the given order, and no other turn.
  pub order : SweptBy R made.dims made.cap made.slots manner starts turned before after run.progs
  -- The transcript holds the logs that these turns left.
  pub exchanged : (c : ClosedRound) → run.rounds ≡ c ∷ [] → (l : ℕ)
      → (logs_of (round_inside c).sent l ≡ order.last.sent l) × (logs_of (round_inside c).got l ≡ order.last.got l)
  -- Each rank made at least one turn in each epoch; each round has an epoch of work and one of
  -- votes.
  pub fewest : (n : ℕ) → HasRounds R starts n → before + 2 * n * ranks made.dims ≤ after
  -- No link carried more parcels than the run had turns.
  pub posted : (c : ClosedRound) → run.rounds ≡ c ∷ [] → (l : ℕ) → l < links made.dims
      → length (logs_of (round_inside c).sent l) + before ≤ after

-- From `before` to `after` there are no more turns than the bound for these programs.
abbrev pub WithinTurns : {S : Type 0} → Rules S → List S → Manner → List ℕ → ℕ → ℕ → Type 0
WithinTurns R starts manner dims before after = (n : ℕ) → HasRounds R starts n
    → after ≤ before + turns_within R manner dims starts n

-- The gate was notified of the first 2 * n turns of each rank, in a run of n rounds, which has 2 *
-- n epochs: `notified r m` for turn m of rank r.
abbrev pub NotifiedOfTurns : {S : Type 0} → Rules S → List S → List ℕ → (ℕ → ℕ → Bool) → Type 0
NotifiedOfTurns R starts dims notified = (n r m : ℕ) → HasRounds R starts n → r < ranks dims → m < 2 * n → notified r m ≡ true
