-- Ranks that run on threads, each with a seat at two slot banks: one of queries, one of replies.
use Rattle.std.specs.Prelude.{◌≡◌, ℕ, ◌^◌, ◌<◌, ◌≤◌, Bool, true, false, List, length, replicate, slice_get, Some}
use Rattle.std.specs.List.{All}
use Rattle.list_laws.specs.Lists.{EachAt}
use Rattle.route_tensor.specs.Grid.{ranks}
use Rattle.port_bank.specs.Shapes.{IsConveyorShape}
use Rattle.link_slots.specs.Gathering.{Gathering}
use Rattle.link_slots.specs.SeatView.{BankIdentity, SeatView, posted_on, collected_from}
use Rattle.round_program.specs.Talks.{Talk}
use Rattle.rank_group.specs.TurnNotes.{HasSame}
use Rattle.query_node.specs.States.{BiState, IsBiNode}
use Rattle.biconvey.specs.RanksOverBanks.{is_over}
use Rattle.biconvey.specs.Drives.{AreFreshBiRanks}

-- A rank, its seat at the bank of queries, its seat at the bank of replies, and the number of turns
-- that it has made.
pub record BiSeatedState (S : Type 0) : Type 0 where
  pub node : BiState S
  pub queries : SeatView
  pub replies : SeatView
  pub turns : ℕ

-- The bank that a seat belongs to.
abbrev pub bank_at : SeatView → BankIdentity
bank_at seat = record { id = seat.id; shape = seat.shape }

-- A conveyor's rank and grid are those of its seat.
pub record IsSeatOf (rank : ℕ) (dims : List ℕ) (seat : SeatView) : Type 0 where
  pub same_dims : dims ≡ seat.shape.dims
  pub same_rank : rank ≡ seat.rank

-- By the logs of its own seats, a rank takes part in some exchange, which it began in the state
-- `start`; its parcels are filled as conveyors fill them.
-- some: if its queries and its replies are both complete, it was turned.
pub record IsBiRankAtSeats {S : Type 0} (T : Talk S) (cap : ℕ) (steady : Bool) (start : S) (x : BiSeatedState S) : Type 0 where
  pub queries : IsSeatOf x.node.queries.rank x.node.queries.dims x.queries
  pub replies : IsSeatOf x.node.replies.rank x.node.replies.dims x.replies
  pub same_steady : (x.node.queries.steady ≡ steady) × (x.node.replies.steady ≡ steady)
  pub node : IsBiNode T start x.node (posted_on x.queries) (collected_from x.queries) (posted_on x.replies)
      (collected_from x.replies)
  pub queries_shape : (l : ℕ) → IsConveyorShape steady cap (posted_on x.queries l)
  pub replies_shape : (l : ℕ) → IsConveyorShape steady cap (posted_on x.replies l)
  pub some : is_over x.node ≡ true → 0 < x.turns

-- The same, for some `start` and `steady`.
pub record HasSomeBiRun {S : Type 0} (T : Talk S) (cap : ℕ) (x : BiSeatedState S) : Type 0 where
  pub steady : Bool
  pub start : S
  pub way : IsBiRankAtSeats T cap steady start x

-- A seat of the same rank at the same bank.
pub record SameSeat (old new : SeatView) : Type 0 where
  pub bank : bank_at new ≡ bank_at old
  pub number : new.rank ≡ old.rank

-- What some turns of a rank do, from x to y: it keeps its seats, and still takes part in the
-- exchange.
-- heard: the gate was notified of each of these turns, by the rank's number and the turn's, counted
-- from 0 over the whole exchange.
pub record TookBiTurns {S : Type 0} (T : Talk S) (cap : ℕ) (notified : ℕ → ℕ → Bool) (x y : BiSeatedState S) : Type 0 where
  pub queries : SameSeat x.queries y.queries
  pub replies : SameSeat x.replies y.replies
  pub more : x.turns ≤ y.turns
  pub heard : (n : ℕ) → x.turns ≤ n → n < y.turns → notified x.queries.rank n ≡ true
  pub kept : (steady : Bool) (start : S) → IsBiRankAtSeats T cap steady start x → IsBiRankAtSeats T cap steady start y

-- A rank before its first turn, with seats of number r at the banks q and p.
pub record IsSeatedBiRank {S : Type 0} (T : Talk S) (cap : ℕ) (steady : Bool) (q p : BankIdentity) (r : ℕ)
    (x : BiSeatedState S) : Type 0 where
  pub queries_bank : bank_at x.queries ≡ q
  pub replies_bank : bank_at x.replies ≡ p
  pub numbers : (x.queries.rank ≡ r) × (x.replies.rank ≡ r)
  pub none : x.turns ≡ 0
  pub way : IsBiRankAtSeats T cap steady x.node.asker x

-- Ranks before their first turn, with seats at these banks in order.
abbrev pub AreSeatedBiRanks : {S : Type 0} → Talk S → ℕ → Bool → BankIdentity → BankIdentity → List (BiSeatedState S) → Type 0
AreSeatedBiRanks {S} T cap steady q p xs = (r : ℕ) (x : BiSeatedState S) → slice_get xs r ≡ Some x
    → IsSeatedBiRank T cap steady q p r x

-- The ranks may get their seats, each at both banks: q of queries and p of replies. Their seats are
-- in gq and gp, and none is given yet.
pub record MaySeatAll {S : Type 0} (T : Talk S) (q p : BankIdentity) (gq gp : Gathering)
    (ns : List (BiState S)) : Type 0 where
  pub queries : (gq.id ≡ q.id) × (gq.shape ≡ q.shape)
  pub replies : (gp.id ≡ p.id) × (gp.shape ≡ p.shape)
  pub shape : p.shape ≡ q.shape
  pub none : (gq.given ≡ replicate (ranks q.shape.dims) false) × (gp.given ≡ replicate (ranks q.shape.dims) false)
  pub size : length ns ≡ ranks q.shape.dims
  pub few : ranks q.shape.dims < 2 ^ 32
  pub fresh : (steady : Bool) × (askers : List S) × AreFreshBiRanks T q.shape.dims steady askers ns

-- Ranks at their seats of both banks, in order.
pub record AreAtSeats {S : Type 0} (q p : BankIdentity) (xs : List (BiSeatedState S)) : Type 0 where
  pub same : All (λ x. (bank_at x.queries ≡ q) × (bank_at x.replies ≡ p)) xs
  pub numbers : EachAt (λ r x. (x.queries.rank ≡ r) × (x.replies.rank ≡ r)) xs

-- Turns from x to y made no progress: no parcel of queries or replies was posted or collected, no
-- query was pushed, and neither direction was completed.
pub record AskerMadeNoProgress {S : Type 0} (x y : BiSeatedState S) : Type 0 where
  pub queries : HasSame x.queries y.queries
  pub replies : HasSame x.replies y.replies
  pub asked : y.node.next ≡ x.node.next
  pub over : is_over y.node ≡ is_over x.node
