-- Places sorted and without doubles are the ascending ones.
use Rattle.std.proofs.Common.{ℕ, zero, suc, ◌+◌, ◌<◌, ◌≤◌, ◌≡◌, Bool, true, false, cond, eqb, ◌||◌, List, [], ◌∷◌, get_or, All, IsPermutation, arith, inl, inr, refl, sym, ap, ◌∙◌, subst}
use Rattle.std.specs.Prelude.{Contains, ⊤}
use Rattle.std.specs.List.{filter, list_any, dedup, range_with_len}
use Rattle.std.specs.List.Sorted.{IsNonDecreasing, IsStrictlyIncreasing, IsSorted}
use Rattle.std.specs.Ordering.{nat_cmp}
use Rattle.std.proofs.lemmas.Bool.{cases_Bool, cases_eq, eq-eqb, ne_eqb, eqb-true, false≢true}
use Rattle.std.proofs.lemmas.List.Elements.{All-nil, All-cons, All-filter, All-contains}
use Rattle.std.proofs.lemmas.List.Kept.{Contains-dedup_nat, Contains-from_dedup}
use Rattle.std.proofs.lemmas.List.Sorted.{Contains-permutation, IsPermutation-sym}
use Rattle.std.proofs.lemmas.Map.Keys.{IsStrictlyIncreasing-dedup}
use Rattle.least_walks.proofs.Marks.{times, times_cons, times_here, times_none, rising_cons, same_rising}
use Rattle.least_walks.proofs.Members.{has_head, has_tail, has_cases, none_in, has_filtered, was_filtered}
use Rattle.delta_step.specs.Deltas.{ascending}

-- each number is below all behind it
abbrev Strict : List ℕ → Type 0
Strict [] = ⊤
Strict (x ∷ xs) = All (λ y. x < y) xs × Strict xs

next_up : (x y : ℕ) (xs : List ℕ) → IsStrictlyIncreasing (x ∷ y ∷ xs) → x < y
next_up x y xs h = h 0 (omega arith)

rest_up : (x : ℕ) (xs : List ℕ) → IsStrictlyIncreasing (x ∷ xs) → IsStrictlyIncreasing xs
rest_up x xs h k l = subst (λ j. get_or xs k 0 < get_or (x ∷ xs) j 0) (let e : suc k + 1 ≡ suc (k + 1) = omega arith in e) (h (suc k) (omega arith))

strict_from : (xs : List ℕ) → IsStrictlyIncreasing xs → Strict xs
strict_from [] h = tt
strict_from (x ∷ []) h = (All-nil (λ y. x < y), tt)
strict_from (x ∷ (y ∷ xs)) h =
    let rest : Strict (y ∷ xs) = strict_from (y ∷ xs) (rest_up x (y ∷ xs) h) in
    let low : x < y = next_up x y xs h in
    (All-cons (λ z. x < z) y xs low (λ k d l. (let a : y < get_or xs k d = rest.0 k d l in omega arith)), rest)

strict_filter : (p : ℕ → Bool) (xs : List ℕ) → Strict xs → Strict (filter p xs)
strict_filter p [] h = tt
strict_filter p (x ∷ xs) h =
    elim (cases_Bool (p x)) [
      | inl t ↦ subst (λ b. Strict (cond b (x ∷ filter p xs) (filter p xs))) (sym t) (All-filter p (λ y. x < y) xs h.0, strict_filter p xs h.1)
      | inr f ↦ subst (λ b. Strict (cond b (x ∷ filter p xs) (filter p xs))) (sym f) (strict_filter p xs h.1)
    ]

range_above : (a k n : ℕ) → a < k → All (λ y. a < y) (range_with_len k n)
range_above a k zero l = All-nil (λ y. a < y)
range_above a k (suc n) l = All-cons (λ y. a < y) k (range_with_len (k + 1) n) l (range_above a (k + 1) n (omega arith))

strict_range : (k n : ℕ) → Strict (range_with_len k n)
strict_range k zero = tt
strict_range k (suc n) = (range_above k (k + 1) n (omega arith), strict_range (k + 1) n)

rising_from : (xs : List ℕ) → Strict xs → IsNonDecreasing xs
rising_from [] h = λ i j d l m. absurd (omega arith)
rising_from (x ∷ xs) h = rising_cons x xs (λ k d l. (let a : x < get_or xs k d = h.0 k d l in omega arith)) (rising_from xs h.1)

pub in_range_of : (q k n : ℕ) → k ≤ q → q < k + n → Contains (range_with_len k n) q
in_range_of q k zero l m = absurd (omega arith)
in_range_of q k (suc n) l m =
    elim (cases_eq k q) [
      | inl same ↦ subst (λ j. Contains (k ∷ range_with_len (k + 1) n) j) same (has_head k (range_with_len (k + 1) n))
      | inr other ↦ has_tail k q (range_with_len (k + 1) n) (in_range_of q (k + 1) n (omega (arith, other)) (omega arith))
    ]

-- a number stands once in such a list, or not at all
once : (q : ℕ) (xs : List ℕ) → Strict xs → Contains xs q → times q xs ≡ 1
once q [] h c = absurd (none_in q c)
once q (x ∷ xs) h c =
    elim (has_cases x q xs c) [
      | inl same ↦
          (let e : times q (x ∷ xs) ≡ 1 + times q xs = subst (λ z. times z (x ∷ xs) ≡ 1 + times z xs) same (times_here x xs) in
          let none : times q xs ≡ 0 = times_none q xs (subst (λ z. All (λ y. z < y) xs) same h.0) in
          omega arith)
      | inr later ↦
          (let low : x < q = All-contains (λ y. x < y) xs q h.0 later in
          let e : times q (x ∷ xs) ≡ 0 + times q xs = times_cons q x xs ∙ ap (λ b. cond b 1 0 + times q xs) (ne_eqb x q (λ z. absurd (omega arith))) in
          let one : times q xs ≡ 1 = once q xs h.1 later in
          omega arith)
    ]

never : (q : ℕ) (xs : List ℕ) → ¬ Contains xs q → times q xs ≡ 0
never q [] h = refl
never q (x ∷ xs) h =
    (let e : times q (x ∷ xs) ≡ 0 + times q xs = times_cons q x xs ∙ ap (λ b. cond b 1 0 + times q xs) (ne_eqb x q (λ z. h (subst (λ j. Contains (x ∷ xs) j) z (has_head x xs)))) in
    let none : times q xs ≡ 0 = never q xs (λ c. h (has_tail x q xs c)) in
    omega arith)

pub any_has : (q : ℕ) (xs : List ℕ) → Contains xs q → list_any (eqb q) xs ≡ true
any_has q [] c = absurd (none_in q c)
any_has q (x ∷ xs) c =
    elim (has_cases x q xs c) [
      | inl same ↦ left_true (eqb q x) (list_any (eqb q) xs) (eq-eqb q x (sym same))
      | inr later ↦ right_true (eqb q x) (list_any (eqb q) xs) (any_has q xs later)
    ]
  where
    left_true : (a b : Bool) → a ≡ true → (a || b) ≡ true
    left_true true b h = refl
    left_true false b h = absurd (false≢true h)

    right_true : (a b : Bool) → b ≡ true → (a || b) ≡ true
    right_true true b h = refl
    right_true false b h = h

pub has_any : (q : ℕ) (xs : List ℕ) → list_any (eqb q) xs ≡ true → Contains xs q
has_any q [] h = absurd (false≢true h)
has_any q (x ∷ xs) h =
    elim (cases_Bool (eqb q x)) [
      | inl t ↦ subst (λ j. Contains (x ∷ xs) j) (sym (eqb-true q x t)) (has_head x xs)
      | inr f ↦ has_tail x q xs (has_any q xs (ap (λ b. b || list_any (eqb q) xs) (sym f) ∙ h))
    ]

pub ascending_is : (n : ℕ) (places sorted out : List ℕ) → All (λ p. p < n) places → IsPermutation places sorted → IsSorted nat_cmp sorted → out ≡ dedup eqb sorted → out ≡ ascending n places
ascending_is n places sorted out low moves up is =
    let strict : Strict (dedup eqb sorted) = strict_from (dedup eqb sorted) (IsStrictlyIncreasing-dedup sorted up) in
    let wanted : Strict (ascending n places) = strict_filter (λ p. list_any (eqb p) places) (range_with_len 0 n) (strict_range 0 n) in
    is ∙ same_rising (dedup eqb sorted) (ascending n places) (rising_from (dedup eqb sorted) strict) (rising_from (ascending n places) wanted) (λ q.
    elim (cases_Bool (list_any (eqb q) places)) [
      | inl t ↦
          let here : Contains places q = has_any q places t in
          let below : q < n = All-contains (λ p. p < n) places q low here in
          once q (dedup eqb sorted) strict (Contains-dedup_nat sorted q (Contains-permutation places sorted q moves here))
          ∙ sym (once q (ascending n places) wanted (has_filtered (λ p. list_any (eqb p) places) (range_with_len 0 n) q (in_range_of q 0 n (omega arith) (omega arith)) t))
      | inr f ↦
          never q (dedup eqb sorted) (λ c. false≢true (sym f ∙ any_has q places (Contains-permutation sorted places q (IsPermutation-sym places sorted moves) (Contains-from_dedup eqb sorted q c))))
          ∙ sym (never q (ascending n places) (λ c. false≢true (sym f ∙ (was_filtered (λ p. list_any (eqb p) places) (range_with_len 0 n) q c).1)))
    ])
