-- Ranks that run on threads, each with a seat at a slot bank.
use Rattle.std.specs.Prelude.{◌≡◌, ℕ, ◌<◌, ◌≤◌, Bool, true, false, List, slice_get, Some}
use Rattle.link_slots.specs.SeatView.{BankIdentity, SeatView, posted_on, collected_from}
use Rattle.round_program.specs.Rules.{Rules}
use Rattle.rank_node.specs.Movers.{Manner}
use Rattle.rank_group.specs.TurnNotes.{HasSame}
use Rattle.rank_group.specs.Ranks.{RankState, IsRank, progress}

-- A rank, its seat, the number of turns that it has made, and whether memory ran out at the end of
-- its run.
pub record SeatedState (S : Type 0) : Type 0 where
  pub rank : RankState S
  pub seat : SeatView
  pub turns : ℕ
  pub lost : Bool

-- The bank that it belongs to.
abbrev pub bank_of : {S : Type 0} → SeatedState S → BankIdentity
bank_of x = record { id = x.seat.id; shape = x.seat.shape }

-- By its own seat's logs, a rank takes part in some run; h m is the state of its program at the
-- start of round m. Nothing is stated if memory ran out.
-- few: it has completed no more epochs than it made turns.
pub record IsRankAtSeat {S : Type 0} (R : Rules S) (cap : ℕ) (manner : Manner) (h : ℕ → S) (x : SeatedState S) : Type 0 where
  pub runs : x.lost ≡ false
      → IsRank R x.seat.shape.dims cap manner x.seat.rank h x.rank (posted_on x.seat) (collected_from x.seat)
  pub few : x.lost ≡ false → progress x.rank ≤ x.turns

-- The same, for some manner and history.
pub record HasSomeRun {S : Type 0} (R : Rules S) (cap : ℕ) (x : SeatedState S) : Type 0 where
  pub manner : Manner
  pub h : ℕ → S
  pub way : IsRankAtSeat R cap manner h x

-- What some turns of a rank do, from x to y: it keeps its seat, and still takes part in the run.
-- heard: the gate was notified of each of these turns, by the rank's number and the turn's, counted
-- from 0 over the whole run.
pub record TookTurns {S : Type 0} (R : Rules S) (cap : ℕ) (notified : ℕ → ℕ → Bool) (x y : SeatedState S) : Type 0 where
  pub bank : bank_of y ≡ bank_of x
  pub number : y.seat.rank ≡ x.seat.rank
  pub more : x.turns ≤ y.turns
  pub heard : (n : ℕ) → x.turns ≤ n → n < y.turns → notified x.seat.rank n ≡ true
  pub kept : (manner : Manner) (h : ℕ → S) → IsRankAtSeat R cap manner h x
      → (g : ℕ → S) × (g 0 ≡ h 0) × IsRankAtSeat R cap manner g y

-- A rank before its first turn, with the seat of number r at the bank b.
pub record IsSeated {S : Type 0} (R : Rules S) (cap : ℕ) (manner : Manner) (b : BankIdentity) (r : ℕ)
    (x : SeatedState S) : Type 0 where
  pub bank : bank_of x ≡ b
  pub number : x.seat.rank ≡ r
  pub none : x.turns ≡ 0
  pub way : IsRankAtSeat R cap manner (λ m. x.rank.node.run.prog) x

-- Ranks before their first turn, with seats at the bank b in order.
abbrev pub AreSeated : {S : Type 0} → Rules S → ℕ → Manner → BankIdentity → List (SeatedState S) → Type 0
AreSeated {S} R cap manner b xs = (r : ℕ) (x : SeatedState S) → slice_get xs r ≡ Some x → IsSeated R cap manner b r x

-- Turns from x to y made no progress: no parcel was posted or collected, no item was pushed, no
-- epoch ended, and memory didn't run out at the end of the run.
pub record MadeNoProgress {S : Type 0} (x y : SeatedState S) : Type 0 where
  pub parcels : HasSame x.seat y.seat
  pub pushed : y.rank.node.run.next ≡ x.rank.node.run.next
  pub epochs : progress y.rank ≡ progress x.rank
  pub lost : y.lost ≡ x.lost
