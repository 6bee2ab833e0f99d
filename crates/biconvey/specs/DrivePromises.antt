-- What a drive guarantees of an exchange of queries and replies.
use Rattle.std.specs.Prelude.{◌≡◌, ℕ, ◌+◌, ◌<◌, ◌≤◌, Bool, List, [], ◌∷◌, length}
use Rattle.route_tensor.specs.Grid.{ranks}
use Rattle.route_tensor.specs.Link.{links}
use Rattle.port_bank.specs.Round.{logs_of}
use Rattle.rank_group.specs.declared.closed_round.ClosedRound.{ClosedRound}
use Rattle.rank_group.specs.declared.drive.Finished.{Finished}
use Rattle.rank_group.specs.Rounds.{round_inside}
use Rattle.rank_group.specs.Transcript.{BankShape}
use Rattle.round_program.specs.Talks.{Talk}
use Rattle.round_program.specs.Replies.{HaveHeard}
use Rattle.biconvey.specs.Drives.{RecordsExchange}
use Rattle.biconvey.specs.Turns.{AskedInSweeps}

-- The result of driving the askers `starts` over two banks of the given shape.
pub record HasExchanged {S : Type 0} (T : Talk S) (starts : List S) (made : BankShape) (steady : Bool)
    (run : Finished S) : Type 0 where
  -- Each query has received its one reply.
  pub heard : HaveHeard T starts run.progs
  -- Two transcripts record what was exchanged: of the queries, and of the replies.
  pub rounds : (q : ClosedRound) × (r : ClosedRound) × (run.rounds ≡ q ∷ r ∷ [])
      × RecordsExchange T starts made steady (round_inside q) (round_inside r)

-- What a drive on one thread further guarantees. It counts its turns, from `before` to `after`.
pub record HasSweptBoth {S : Type 0} (T : Talk S) (starts : List S) (made : BankShape) (steady : Bool) (turned : List ℕ)
    (before after : ℕ) (run : Finished S) : Type 0 where
  -- It made sweeps in the given order, and no other turn.
  pub order : AskedInSweeps T made.dims made.cap made.slots steady starts turned before after run.progs
  -- The transcripts hold the logs that these turns left.
  pub exchanged : (q r : ClosedRound) → run.rounds ≡ q ∷ r ∷ [] → (l : ℕ)
      → (logs_of (round_inside q).sent l ≡ order.last.sides.asking l) × (logs_of (round_inside q).got l ≡ order.last.sides.asked l)
      × (logs_of (round_inside r).sent l ≡ order.last.sides.replying l)
      × (logs_of (round_inside r).got l ≡ order.last.sides.replied l)
  -- Each rank made at least one turn.
  pub fewest : before + ranks made.dims ≤ after
  -- No link in either direction carried more parcels than the run had turns.
  pub posted : (q r : ClosedRound) → run.rounds ≡ q ∷ r ∷ [] → (l : ℕ) → l < links made.dims
      → (length (logs_of (round_inside q).sent l) + before ≤ after)
      × (length (logs_of (round_inside r).sent l) + before ≤ after)
