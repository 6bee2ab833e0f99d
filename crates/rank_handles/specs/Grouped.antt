-- What contracts see of a group, and of a rank that was just made.
use Rattle.std.specs.Prelude.{◌≡◌, ℕ, not, is_some, Bool, true, false, List, [], sum, replicate}
use Rattle.std.specs.Prelude.{if◌then◌else◌}
use Rattle.std.specs.Prelude.{slice_set, None, nat_lt, slice_index_or, Result, Ok, Err}
use Rattle.item_buffer.specs.Capacity.{is_capacity}
use Rattle.route_tensor.specs.Grid.{ranks}
use Rattle.route_tensor.specs.Refusal.{refusal}
use Rattle.port_bank.specs.Slots.{is_slot_count}
use Rattle.link_slots.specs.SeatView.{BankIdentity, posted_on, collected_from}
use Rattle.hop_core.specs.Lent.Lent.{Given}
use Rattle.hop_core.specs.declared.phase.Phase.TheVariants.{Dormant}
use Rattle.hop_core.specs.Link.{no_out, no_in}
use Rattle.hop_core.specs.State.{State}
use Rattle.rank_handles.specs.declared.answer.Answer.{Answer}
use Rattle.rank_handles.specs.declared.answer.Answer.TheVariants.{Good, RankTaken, NoSuchRank, BadNumbers}
use Rattle.rank_handles.specs.Seated.{Seated}

-- A group: the bank that its ranks share, with its grid and its slots; how many entries a parcel
-- holds; whether its conveyors are steady; and which ranks were made.
pub record Grouped : Type 0 where
  pub bank : BankIdentity
  pub cap : ℕ
  pub steady : Bool
  pub given : List Bool

-- What becomes of the wish to make a group, if there is memory.
-- 2x2 with buffers of 64 and 2 slots is Good; 9x8 has too many ranks, 3 is no capacity, and 3 no
-- number of slots.
abbrev pub group_answer : List ℕ → ℕ → ℕ → Answer
group_answer dims cap slots =
    if is_some (refusal dims) then BadNumbers
    else if not (is_slot_count slots) then BadNumbers
    else if not (is_capacity cap) then BadNumbers
    else Good

-- A group of these numbers that was just made: no rank was.
pub record IsNewGroup (dims : List ℕ) (cap slots : ℕ) (steady : Bool) (g : Grouped) : Type 0 where
  pub shape : g.bank.shape ≡ record { dims = dims; slots = slots }
  pub cap_is : g.cap ≡ cap
  pub steady_is : g.steady ≡ steady
  pub none_given : g.given ≡ replicate (ranks dims) false

-- A rank before its first epoch: Dormant, with nothing in its buffers.
abbrev pub new_state : List ℕ → ℕ → ℕ → Bool → State
new_state dims rank cap steady = record {
  dims = dims;
  rank = rank;
  cap = cap;
  steady = steady;
  outs = replicate (sum dims) no_out;
  ins = replicate (sum dims) no_in;
  done = false;
  phase = Dormant;
  epoch = 0;
  lent = Given;
  pulled = None;
}

-- A rank that was just made: at this bank, before its first epoch, with nothing sent and nothing
-- got.
pub record NewRank (bank : BankIdentity) (rank cap : ℕ) (steady : Bool) (s : Seated) : Type 0 where
  pub id : s.seat.id ≡ bank.id
  pub shape : s.seat.shape ≡ bank.shape
  pub state : s.state ≡ new_state bank.shape.dims rank cap steady
  pub sent : posted_on s.seat ≡ (λ l. [])
  pub got : collected_from s.seat ≡ (λ l. [])

-- Of a group.
unfoldable pub IsNewRank : Grouped → ℕ → Seated → Type 0
IsNewRank g rank s = NewRank g.bank rank g.cap g.steady s

-- The group once a rank was made.
abbrev pub with_given : Grouped → ℕ → Grouped
with_given g rank = record g { given = slice_set g.given rank true }

-- What becomes of the wish to make a rank, if there is memory.
abbrev pub rank_answer : Grouped → ℕ → Answer
rank_answer g rank =
    if nat_lt rank (ranks g.bank.shape.dims) then (if slice_index_or g.given rank true then RankTaken else Good)
    else NoSuchRank

-- The answer that goes with what was made.
abbrev pub answer_with : {T : Type 0} → Result T Answer → Answer
answer_with (Ok made) = Good
answer_with (Err answer) = answer
