-- The first place of a list that passes a test.
use Rattle.std.proofs.Common.{◌≡◌, ℕ, zero, suc, ◌<◌, ◌≤◌, Bool, true, false, List, [], ◌∷◌, length, get_or, set, Some, None, refl, inl, inr, arith, sym, ap, ◌∙◌}
use Rattle.std.proofs.lemmas.Bool.{cond-true, cond-false, lt-ltb, le-ltb, cases_lt}
use Rattle.std.specs.List.{position, position_or_len}
use Rattle.std.proofs.lemmas.List.Sums.{position_or_len_is, fails_before_first}

pub place_is : {X : Type 0} (p : X → Bool) (xs : List X) (i : ℕ) (d : X) → i < length xs → ((k : ℕ) → k < i → p (get_or xs k d) ≡ false) → p (get_or xs i d) ≡ true → Some i ≡ position p xs
place_is p xs i d w before here =
    let e : position_or_len p xs ≡ i = position_or_len_is p xs i d (omega arith) before (λ h. here) in
    let within : position_or_len p xs < length xs = omega (arith, e) in
    sym (cond-true _ _ _ (lt-ltb _ _ within) ∙ ap Some e)

pub place_none : {X : Type 0} (p : X → Bool) (xs : List X) (i : ℕ) (d : X) → length xs ≤ i → ((k : ℕ) → k < i → p (get_or xs k d) ≡ false) → None ≡ position p xs
place_none p xs i d w before =
    let e : position_or_len p xs ≡ length xs = position_or_len_is p xs (length xs) d (omega arith) (λ k h. before k (omega arith)) (λ h. absurd (omega arith)) in
    let past : length xs ≤ position_or_len p xs = omega (arith, e) in
    sym (cond-false _ _ _ (le-ltb _ _ past))

-- where no place passes
pub none_passes : {X : Type 0} (p : X → Bool) (xs : List X) (d : X) → position p xs ≡ None → (k : ℕ) → k < length xs → p (get_or xs k d) ≡ false
none_passes p xs d none k w = elim (cases_lt (position_or_len p xs) (length xs)) [
  | inl within ↦ absurd (some_none _ (sym (cond-true _ _ _ (lt-ltb _ _ within)) ∙ none))
  | inr past ↦ fails_before_first p xs k d (omega arith)
] where
  some_none : (i : ℕ) → Some i ≡ None → ⊥
  some_none i e = cc

-- what is at a place is put there
pub set_back : {X : Type 0} (xs : List X) (i : ℕ) (d : X) → i < length xs → set xs i (get_or xs i d) ≡ xs
set_back [] i d h = refl
set_back (x ∷ xs) zero d h = refl
set_back (x ∷ xs) (suc i) d h = ap (λ ys. x ∷ ys) (set_back xs i d (omega arith))
