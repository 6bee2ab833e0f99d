-- How many sweeps a run takes.
use Rattle.std.proofs.Common.{◌≡◌, ℕ, zero, suc, ◌+◌, ◌*◌, ◌<◌, ◌≤◌, Bool, min, List, [], ◌∷◌, length, Some, slice_get, refl, ap, arith, inl, inr}
use Rattle.std.proofs.lemmas.Bool.{cases_lt}
use Rattle.list_laws.proofs.Lists.{within, get_once}
use Rattle.route_tensor.specs.Grid.{ranks}
use Rattle.route_tensor.specs.Link.{links}
use Rattle.round_program.specs.Rules.{Rules}
use Rattle.round_program.specs.Canonical.{items_at}
use Rattle.rank_node.specs.Movers.{Manner}
use Rattle.rank_node.specs.Movers.Manner.{ByConveyor}
use Rattle.rank_group.specs.Transcript.{turns_within}
use Rattle.rank_group.specs.Ranks.{RankState, progress}
use Rattle.rank_group.proofs.Pushed.{items_before}

-- at most so many sweeps end an epoch or move something
abbrev pub sweeps_within : {S : Type 0} → Rules S → List ℕ → List S → ℕ → ℕ
sweeps_within R dims starts n = 3 * (length dims * items_before R (ranks dims) starts n) + links dims * (4 * n) + 2 * n

-- each of them turns no rank twice
pub turns_low : {S : Type 0} (R : Rules S) (steady : Bool) (dims : List ℕ) (starts : List S) (n : ℕ) → ranks dims * sweeps_within R dims starts n ≤ turns_within R (ByConveyor steady) dims starts n
turns_low R steady dims starts zero = omega arith
turns_low R steady dims starts (suc n) = by (ranks dims) (length dims) (links dims) (items_at R starts n) (items_before R (ranks dims) starts n) (turns_within R (ByConveyor steady) dims starts n) (turns_low R steady dims starts n) where
  by : (p k l i b t : ℕ) → p * (3 * (k * b) + l * (4 * n) + 2 * n) ≤ t
      → p * (3 * (k * (b + (i + p * p))) + l * (4 * suc n) + 2 * suc n) ≤ t + (p * (i * (3 * k + 1) + 2 * l + 1) + p * (p * p * (3 * k + 1) + 2 * l + 1))
  by p k l i b t rest = omega (arith, rest)

-- more rounds take no fewer turns
pub turns_more : {S : Type 0} (R : Rules S) (manner : Manner) (dims : List ℕ) (starts : List S) (n m : ℕ) → n ≤ m → turns_within R manner dims starts n ≤ turns_within R manner dims starts m
turns_more R manner dims starts n zero low = by n low where
  by : (n : ℕ) → n ≤ 0 → turns_within R manner dims starts n ≤ 0
  by zero low = omega arith
  by (suc n) low = absurd (omega (arith, low))
turns_more R manner dims starts n (suc m) low = elim (cases_lt m n) [
  | inl here ↦ let e : n ≡ suc m = omega (arith, low, here) in omega (arith, ap (turns_within R manner dims starts) e)
  | inr before ↦ let rest = turns_more R manner dims starts n m (omega (arith, before)) in omega (arith, rest)
]

-- the least number of epochs that a rank has completed
abbrev pub least : {S : Type 0} → List (RankState S) → ℕ
least [] = 0
least (x ∷ []) = progress x
least (x ∷ (y ∷ ys)) = min (progress x) (least (y ∷ ys))

pub least_low : {S : Type 0} (rs : List (RankState S)) (r : ℕ) (x : RankState S) → slice_get rs r ≡ Some x → least rs ≤ progress x
least_low [] r x at = absurd (omega (arith, within [] r x at))
least_low (y ∷ []) zero x at = let e = ap (λ z. progress z) (get_once (y ∷ []) 0 y x refl at) in omega (arith, e)
least_low (y ∷ []) (suc r) x at = absurd (omega (arith, within (y ∷ []) (suc r) x at))
least_low (y ∷ (z ∷ zs)) zero x at = let e = ap (λ z. progress z) (get_once (y ∷ (z ∷ zs)) 0 y x refl at) in omega (arith, e)
least_low (y ∷ (z ∷ zs)) (suc r) x at = let low = least_low (z ∷ zs) r x at in omega (arith, low)

pub least_high : {S : Type 0} (rs : List (RankState S)) (k : ℕ) → 0 < length rs → ((r : ℕ) (x : RankState S) → slice_get rs r ≡ Some x → k ≤ progress x) → k ≤ least rs
least_high [] k some all = absurd (omega (arith, some))
least_high (y ∷ []) k some all = all 0 y refl
least_high (y ∷ (z ∷ zs)) k some all = let a = all 0 y refl in let b = least_high (z ∷ zs) k (omega arith) (λ r x at. all (suc r) x at) in omega (arith, a, b)
