-- What a rank has done in a run of many epochs, related to its part of the exchange machine.
use Rattle.std.specs.Prelude.{◌≡◌, ℕ, zero, suc, ◌+◌, ◌-◌, ◌*◌, ◌^◌, ◌<◌, ◌≤◌, min, Bool, true, false, List, [], length, take}
use Rattle.std.specs.Prelude.{if◌then◌else◌}
use Rattle.bale_items.specs.declared.item.Item.{Item}
use Rattle.port_bank.specs.Flow.{IsPrefix}
use Rattle.port_bank.specs.Machine.{Part}
use Rattle.round_program.specs.Rules.{Rules}
use Rattle.round_program.specs.Canonical.{items_of, emissions_to}
use Rattle.round_program.specs.Epochs.{PairLists, heard, after_work, Own}
use Rattle.rank_node.specs.declared.run.Run.{Run}
use Rattle.rank_node.specs.declared.sends.Sends.{Sends}
use Rattle.rank_node.specs.declared.sends.Sends.TheVariants.{Emissions, Nothing, Votes}
use Rattle.rank_node.specs.Sending.{to_send, is_voting, epoch_of, spoiled_vote}

-- What a part of the machine pushed and pulled.
abbrev pub part_lists : Part → PairLists
part_lists part = record { pushed = part.pushed; pulled = part.pulled }

-- The first `next` of some items to send were pushed: toward each of p ranks, those that go to it.
-- Of the items (1,x), (0,y), (1,z), of which two are pushed, rank 1 was sent [x] and rank 0 [y].
abbrev pub IsPushed : List (ℕ × Item) → ℕ → ℕ → Part → Type 0
IsPushed items p next part = (d : ℕ) → d < p → part.pushed part.epoch d ≡ items_of d (take next items)

-- What a node keeps besides its conveyor: its program, the round, what it sends in this epoch and
-- how many of those items are pushed, the sum of the votes that came, and whether memory ran out
-- for its program.
pub record Running (S : Type 0) : Type 0 where
  pub prog : S
  pub round : ℕ
  pub sends : Sends
  pub next : ℕ
  pub sum : ℕ
  pub spoiled : Bool

-- The same, as the code keeps it.
abbrev pub running : {S : Type 0} → Run S → Running S
running r = record {
  prog = r.prog.value;
  round = r.round;
  sends = r.sends;
  next = r.next;
  sum = r.taken.sum;
  spoiled = r.taken.spoiled;
}

-- The number of a program's round once m rounds have ended since round b. It saturates at 2^64 - 1.
-- From round 5 on, two rounds later, it is 7.
abbrev pub round_after : ℕ → ℕ → ℕ
round_after b zero = b
round_after b (suc m) = min (round_after b m + 1) (2 ^ 64 - 1)

-- The rules of a run in which the programs begin in round b: its round m is the programs' round b +
-- m.
abbrev pub from_round : {S : Type 0} → ℕ → Rules S → Rules S
from_round b R = record R { goes_on = λ shape m votes. R.goes_on shape (round_after b m) votes }

-- The epochs that are over for a rank of p ranks; h m is the state of its program at the start of
-- round m, or the state that it would have had if memory hadn't run out.
-- epoch: round m works in epoch 2m and votes in epoch 2m + 1.
-- own: it knows of itself what the theorem over all rounds requires; goes: each round followed
-- because the program goes on.
-- few: a node has at most 2^63 rounds.
-- emitted_front, one_vote: it pushed at most what its program emits, and at most one vote toward
-- each rank.
-- ahead: nothing was pushed or pulled in a later epoch.
pub record HasPassed {S : Type 0} (R : Rules S) (p rank : ℕ) (h : ℕ → S) (round : ℕ) (voting : Bool)
    (part : Part) : Type 0 where
  pub epoch : part.epoch ≡ epoch_of round voting
  pub valid : R.valid (h round)
  pub own_rank : R.rank (h round) ≡ rank
  pub all_ranks : R.ranks (h round) ≡ p
  pub own_round : R.round (h round) ≡ round_after (R.round (h 0)) round
  pub few : round ≤ 2 ^ 63
  pub own : Own (from_round (R.round (h 0)) R) p part.epoch part.epoch h (part_lists part)
  pub goes : (m : ℕ) → m + 1 ≡ round
      → R.goes_on (R.shape (h m)) (round_after (R.round (h 0)) m) (heard p (part_lists part) m) ≡ true
  pub emitted_front : (m d : ℕ) → d < p → 2 * m < part.epoch → IsPrefix (part.pushed (2 * m) d) (emissions_to R (h m) d)
  pub one_vote : (m d : ℕ) → d < p → 2 * m + 1 < part.epoch → length (part.pushed (2 * m + 1) d) ≤ 1
  pub ahead : (e d : ℕ) → part.epoch < e → (part.pushed e d ≡ []) × (part.pulled e d ≡ [])

-- The current epoch.
-- next_low, all_pushed, pushed: a prefix of the items to send is pushed; all of them if the rank is
-- done.
-- nothing: it omits its emissions only if memory ran out.
-- works: unless memory ran out, the program is in the state that the pulls of the round make of h
-- m.
-- vote: it votes what that state votes, and the greatest vote if memory ran out.
-- emitted_all: if it votes what its program votes, it has pushed all that the program emits in the
-- round.
-- hears: it has summed the votes that came.
pub record IsWithinEpoch {S : Type 0} (R : Rules S) (p : ℕ) (h : ℕ → S) (run : Running S) (part : Part) : Type 0 where
  pub next_low : run.next ≤ length (to_send R run.prog run.sends)
  pub all_pushed : part.done ≡ true → run.next ≡ length (to_send R run.prog run.sends)
  pub pushed : IsPushed (to_send R run.prog run.sends) p run.next part
  pub emissions : run.sends ≡ Emissions → R.emissions run.prog ≡ R.emissions (h run.round)
  pub nothing : run.sends ≡ Nothing → run.spoiled ≡ true
  pub works : run.spoiled ≡ false → run.prog ≡ after_work R p h (part_lists part) run.round
  pub vote : (v q : ℕ) → run.sends ≡ Votes v q
      → (q ≡ p) × (v ≡ (if run.spoiled then spoiled_vote else R.vote (after_work R p h (part_lists part) run.round)))
  pub emitted_all : is_voting run.sends ≡ true → run.spoiled ≡ false → (d : ℕ) → d < p
      → part.pushed (2 * run.round) d ≡ emissions_to R (h run.round) d
  pub hears : is_voting run.sends ≡ true → run.sum ≡ heard p (part_lists part) run.round

-- Both, as items are taken in.
pub record HasTaken {S : Type 0} (R : Rules S) (p rank : ℕ) (h : ℕ → S) (round : ℕ) (sends : Sends) (next : ℕ)
    (prog : S) (sum : ℕ) (spoiled : Bool) (part : Part) : Type 0 where
  pub passed : HasPassed R p rank h round (is_voting sends) part
  pub within : IsWithinEpoch R p h
      (record { prog = prog; round = round; sends = sends; next = next; sum = sum; spoiled = spoiled }) part
