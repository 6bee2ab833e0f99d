-- A search through a list, one element after the other.
use Rattle.std.proofs.Common.{ℕ, zero, suc, ◌≡◌, ◌+◌, ◌-◌, ◌<◌, ◌≤◌, Bool, true, false, ◌&&◌, List, [], ◌∷◌, length, take, drop, get_or, arith, ap, ◌∙◌}
use Rattle.std.specs.List.{list_all}
use Rattle.std.proofs.lemmas.List.{drop_more, drop_all, length-drop, get_or-drop}
use Rattle.std.proofs.lemmas.List.Folds.{list_all_more}
use Rattle.std.proofs.Math.Bool.{and-false, and-true}

-- a test of all elements from i on: the next one, and the rest
pub all_step : {X : Type 0} (test : X → Bool) (xs : List X) (i : ℕ) (d : X) → i < length xs → test (get_or xs i d) ≡ true → list_all test (drop i xs) ≡ list_all test (drop (i + 1) xs)
all_step test xs i d l t = ap (list_all test) (drop_more xs i d l) ∙ ap (λ b. b && list_all test (drop (i + 1) xs)) t

pub all_fails : {X : Type 0} (test : X → Bool) (xs : List X) (i : ℕ) (d : X) → i < length xs → test (get_or xs i d) ≡ false → list_all test (drop i xs) ≡ false
all_fails test xs i d l t = ap (list_all test) (drop_more xs i d l) ∙ ap (λ b. b && list_all test (drop (i + 1) xs)) t

pub all_ends : {X : Type 0} (test : X → Bool) (xs : List X) (i : ℕ) → length xs ≤ i → list_all test (drop i xs) ≡ true
all_ends test xs i l = ap (list_all test) (drop_all i xs l)

-- the same of the elements from one place up to another, the last one first
back_and : {X : Type 0} (test : X → Bool) (xs : List X) (i from : ℕ) (d : X) → from < i → i ≤ length xs →
    list_all test (take (i - from) (drop from xs)) ≡ (list_all test (take (i - 1 - from) (drop from xs)) && test (get_or xs (i - 1) d))
back_and test xs i from d a b =
    let n : ℕ = i - 1 - from in
    let more : i - from ≡ n + 1 = omega (arith, a) in
    let place : from + n ≡ i - 1 = omega (arith, a) in
    let long : n < length (drop from xs) = omega (arith, length-drop from xs, a, b) in
    ap (λ m. list_all test (take m (drop from xs))) more ∙ list_all_more test (drop from xs) n d long
    ∙ ap (λ x. list_all test (take n (drop from xs)) && test x) (get_or-drop from xs n d ∙ ap (λ j. get_or xs j d) place)

pub back_step : {X : Type 0} (test : X → Bool) (xs : List X) (i from : ℕ) (d : X) → from < i → i ≤ length xs → test (get_or xs (i - 1) d) ≡ true →
    list_all test (take (i - from) (drop from xs)) ≡ list_all test (take (i - 1 - from) (drop from xs))
back_step test xs i from d a b t = back_and test xs i from d a b ∙ ap (λ x. list_all test (take (i - 1 - from) (drop from xs)) && x) t ∙ and-true _

pub back_fails : {X : Type 0} (test : X → Bool) (xs : List X) (i from : ℕ) (d : X) → from < i → i ≤ length xs → test (get_or xs (i - 1) d) ≡ false →
    list_all test (take (i - from) (drop from xs)) ≡ false
back_fails test xs i from d a b t = back_and test xs i from d a b ∙ ap (λ x. list_all test (take (i - 1 - from) (drop from xs)) && x) t ∙ and-false _

-- one element that fails
pub one_fails : {X : Type 0} (test : X → Bool) (xs : List X) (j : ℕ) (d : X) → j < length xs → test (get_or xs j d) ≡ false → list_all test xs ≡ false
one_fails test [] j d l t = absurd (omega (arith, l))
one_fails test (x ∷ xs) zero d l t = ap (λ b. b && list_all test xs) t
one_fails test (x ∷ xs) (suc j) d l t = ap (λ b. test x && b) (one_fails test xs j d (omega (arith, l)) t) ∙ and-false (test x)
