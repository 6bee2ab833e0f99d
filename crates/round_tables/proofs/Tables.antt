-- The applications whose votes don't count go by their tables.
use Rattle.std.proofs.Common.{◌≡◌, ℕ, zero, suc, ◌+◌, ◌<◌, ◌≤◌, List, Some, length, map, arith, refl, sym, ap, ◌∙◌, subst}
use Rattle.std.specs.List.{range_with_len}
use Rattle.std.proofs.lemmas.List.FromFn.{length-map-range_with_len}
use Rattle.bale_items.specs.declared.Item.{Item}
use Rattle.round_program.specs.Rules.{Rules}
use Rattle.round_program.specs.Canonical.{HasRounds}
use Rattle.sparse_rows.specs.Emits.{Emit}
use Rattle.round_tables.specs.Tables.{one_round, three_rounds}
use Rattle.round_tables.specs.Follows.{FollowsTable}
use Rattle.round_tables.proofs.Votes.{vote_each}

pub follows_one : {S : Type 0} (R : Rules S) (ranks : ℕ) (begins : ℕ → S) (line : ℕ → List (ℕ × Item)) → ((s : S) → R.vote s ≡ 0)
    → HasRounds R (map begins (range_with_len 0 ranks)) 1 → Emit R (map begins (range_with_len 0 ranks)) 0 ranks line
    → FollowsTable R (map begins (range_with_len 0 ranks)) ranks (one_round line)
follows_one {S} R ranks begins line none rounds sent =
    let starts : List S = map begins (range_with_len 0 ranks) in
    record {
      has_rounds = rounds;
      sent = λ n low. (let z : 0 ≡ n = omega arith in subst (λ k. Emit R starts k ranks line) z sent);
      voted = λ n low. vote_each R starts n ranks (λ r. 0) (length-map-range_with_len begins 0 ranks) (λ r s low' at. none s);
    }

pub follows_three : {S : Type 0} (R : Rules S) (ranks : ℕ) (begins : ℕ → S) (a b c : ℕ → List (ℕ × Item)) → ((s : S) → R.vote s ≡ 0)
    → HasRounds R (map begins (range_with_len 0 ranks)) 3
    → Emit R (map begins (range_with_len 0 ranks)) 0 ranks a → Emit R (map begins (range_with_len 0 ranks)) 1 ranks b → Emit R (map begins (range_with_len 0 ranks)) 2 ranks c
    → FollowsTable R (map begins (range_with_len 0 ranks)) ranks (three_rounds a b c)
follows_three {S} R ranks begins a b c none rounds first second third =
    let starts : List S = map begins (range_with_len 0 ranks) in
    record {
      has_rounds = rounds;
      sent = sent;
      voted = λ n low. vote_each R starts n ranks (λ r. 0) (length-map-range_with_len begins 0 ranks) (λ r s low' at. none s);
    }
  where
    sent : (n : ℕ) → n < 3 → Emit R (map begins (range_with_len 0 ranks)) n ranks ((three_rounds a b c).line n)
    sent zero low = first
    sent (suc zero) low = second
    sent (suc (suc zero)) low = third
    sent (suc (suc (suc n))) low = absurd (omega (arith, low))
