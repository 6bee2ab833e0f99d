-- A run whose programs begin in round 0: its rounds are the programs' own.
use Rattle.std.proofs.Common.{◌≡◌, ℕ, zero, suc, ◌+◌, ◌^◌, ◌<◌, ◌≤◌, ap, sym, ◌∙◌, arith}
use Rattle.round_program.specs.Rules.{Rules}
use Rattle.round_program.specs.Epochs.{PairLists, heard, Voted, told, spoiled, Own}
use Rattle.rank_node.specs.Runs.{round_after, from_round}

-- a run that begins in round 0 is in round m after m rounds
pub round_first : (b m : ℕ) → b ≡ 0 → m < 2 ^ 64 → round_after b m ≡ m
round_first b zero first low = first
round_first b (suc m) first low =
    let before : round_after b m ≡ m = round_first b m first (omega (arith, low)) in
    omega (arith, before, low)

-- what a rank knows of itself, where its program begins in round 0
pub own_first : {S : Type 0} (R : Rules S) (p c d : ℕ) (h : ℕ → S) (l : PairLists) → R.round (h 0) ≡ 0 → d ≤ 2 ^ 64 + 2 → Own (from_round (R.round (h 0)) R) p c d h l → Own R p c d h l
own_first {S} R p c d h l first few own =
    record {
      done_low = own.done_low;
      done_high = own.done_high;
      voted = λ m b. by_vote m (own.voted m b);
      unspoiled = own.unspoiled;
      next = own.next;
      goes = λ m b. ap (λ k. R.goes_on (R.shape (h m)) k (heard p l m)) (sym (round_first (R.round (h 0)) m first (omega (arith, b, few)))) ∙ own.goes m b;
    } where
      by_vote : (m : ℕ) → Voted (from_round (R.round (h 0)) R) p h l m → Voted R p h l m
      by_vote m (told es vs) = told es vs
      by_vote m (spoiled vs) = spoiled vs
