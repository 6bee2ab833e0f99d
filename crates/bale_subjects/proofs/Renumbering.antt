-- A list has each number below n once, by the test as by the definition.
use Rattle.std.proofs.Common.{ℕ, zero, suc, ◌+◌, ◌-◌, ◌%◌, ◌<◌, ◌≤◌, ◌≡◌, Bool, true, false, not, ◌&&◌, ◌||◌, eqb, ltb, List, [], ◌∷◌, Option, None, Some, length, arith, inl, inr, refl, sym, ap, subst}
use Rattle.std.specs.List.{All, list_all, list_any, range_with_len, swap}
use Rattle.std.proofs.lemmas.Bool.{cases_Bool, cases_eq, eq-eqb, ne_eqb, eqb-true, and_from, and_parts, or_parts, not-true, not_from_false, false≢true, lt-ltb, ltb-true}
use Rattle.std.proofs.lemmas.List.Elements.{All-head, All-tail, All-cons, All-nil}
use Rattle.std.proofs.lemmas.List.Sorted.{IsPermutation-refl}
use Rattle.std.proofs.lemmas.List.Sums.{sum_by-cons}
use Rattle.std.proofs.lemmas.Nat.{mod_below}
use Rattle.mtx_text.specs.Permutations.{Permutes}
use Rattle.mtx_text.specs.Seeds.{permutation_of, shuffle_of, step, word}
use Rattle.mtx_text.proofs.Bands.{as_many, all_below}
use Rattle.mtx_text.proofs.Shuffles.{permutes_swap}
use Rattle.sparse_rows.proofs.Doubles.{times, one_if, all_once, none_twice as once_each}
use Rattle.bale_subjects.specs.Numberings.{from_zero, has_each, new_numbers, none_twice, numbers_all}

-- what doesn't come in a list comes no time
absent : (x : ℕ) (xs : List ℕ) → list_any (λ y. eqb y x) xs ≡ false → times x xs ≡ 0
absent x [] h = refl
absent x (y ∷ ys) h =
    let s : times x (y ∷ ys) ≡ one_if (eqb y x) + times x ys = sum_by-cons (λ z. one_if (eqb z x)) y ys in
    let z : one_if (eqb y x) ≡ 0 = ap one_if (or_parts (eqb y x) (list_any (λ z. eqb z x) ys) h).0 in
    let r : times x ys ≡ 0 = absent x ys (or_parts (eqb y x) (list_any (λ z. eqb z x) ys) h).1 in
    omega arith

-- and what comes no time doesn't come
comes : (x : ℕ) (xs : List ℕ) → times x xs ≡ 0 → list_any (λ y. eqb y x) xs ≡ false
comes x [] h = refl
comes x (y ∷ ys) h =
    let s : times x (y ∷ ys) ≡ one_if (eqb y x) + times x ys = sum_by-cons (λ z. one_if (eqb z x)) y ys in
    elim (cases_eq y x) [
      | inl e ↦ (let z : one_if (eqb y x) ≡ 1 = ap one_if (eq-eqb y x e) in absurd (omega arith))
      | inr d ↦ neither (eqb y x) (list_any (λ z. eqb z x) ys) (ne_eqb y x d) (comes x ys (omega arith))
    ]
  where
    neither : (a b : Bool) → a ≡ false → b ≡ false → (a || b) ≡ false
    neither false false p q = refl
    neither true b p q = absurd (false≢true (sym p))
    neither false true p q = absurd (false≢true (sym q))

-- each number comes once at most in a list with none twice
once : (xs : List ℕ) (v : ℕ) → none_twice xs ≡ true → times v xs ≤ 1
once [] v h = omega arith
once (x ∷ xs) v h =
    let s : times v (x ∷ xs) ≡ one_if (eqb x v) + times v xs = sum_by-cons (λ z. one_if (eqb z v)) x xs in
    let p = and_parts (not (list_any (λ y. eqb y x) xs)) (none_twice xs) h in
    elim (cases_eq x v) [
      | inl e ↦
          let none : times x xs ≡ 0 = absent x xs (not-true (list_any (λ y. eqb y x) xs) p.0) in
          let same : times v xs ≡ times x xs = ap (λ w. times w xs) (sym e) in
          let one : one_if (eqb x v) ≡ 1 = ap one_if (eq-eqb x v e) in
          omega arith
      | inr d ↦
          let z : one_if (eqb x v) ≡ 0 = ap one_if (ne_eqb x v d) in
          let r : times v xs ≤ 1 = once xs v p.1 in
          omega arith
    ]

twice : (xs : List ℕ) → ((v : ℕ) → times v xs ≤ 1) → none_twice xs ≡ true
twice [] h = refl
twice (x ∷ xs) h =
    let s : (v : ℕ) → times v (x ∷ xs) ≡ one_if (eqb x v) + times v xs = λ v. sum_by-cons (λ z. one_if (eqb z v)) x xs in
    let one : one_if (eqb x x) ≡ 1 = ap one_if (eq-eqb x x refl) in
    let none : times x xs ≡ 0 = omega (arith, s x, h x) in
    and_from (not (list_any (λ y. eqb y x) xs)) (none_twice xs) (not_from_false (list_any (λ y. eqb y x) xs) (comes x xs none)) (twice xs (λ v. omega (arith, s v, h v)))

below : (n : ℕ) (xs : List ℕ) → list_all (λ x. ltb x n) xs ≡ true → All (λ x. x < n) xs
below n [] h = All-nil (λ x. x < n)
below n (x ∷ xs) h =
    let p = and_parts (ltb x n) (list_all (λ x. ltb x n) xs) h in
    All-cons (λ x. x < n) x xs (ltb-true x n p.0) (below n xs p.1)

tests : (n : ℕ) (xs : List ℕ) → All (λ x. x < n) xs → list_all (λ x. ltb x n) xs ≡ true
tests n [] h = refl
tests n (x ∷ xs) h =
    and_from (ltb x n) (list_all (λ x. ltb x n) xs) (lt-ltb x n (All-head (λ x. x < n) x xs h)) (tests n xs (All-tail (λ x. x < n) x xs h))

pub permutes : (n : ℕ) (p : List ℕ) → has_each n p ≡ true → Permutes n p
permutes n p h =
    let a = and_parts (eqb (length p) n) (list_all (λ x. ltb x n) p && none_twice p) h in
    let b = and_parts (list_all (λ x. ltb x n) p) (none_twice p) a.1 in
    all_once n p (eqb-true (length p) n a.0) (below n p b.0) (λ v l. once p v b.1)

pub each_once : (n : ℕ) (p : List ℕ) → Permutes n p → has_each n p ≡ true
each_once n p h =
    and_from (eqb (length p) n) (list_all (λ x. ltb x n) p && none_twice p) (eq-eqb (length p) n (as_many n p h))
    (and_from (list_all (λ x. ltb x n) p) (none_twice p) (tests n p (all_below n p h)) (twice p (λ v. once_each n p v h)))

-- so a test that decides the definition is the other test
pub decided : (n : ℕ) (p : List ℕ) (b : Bool) → (b ≡ true → Permutes n p) → (Permutes n p → b ≡ true) → b ≡ has_each n p
decided n p true forth back = sym (each_once n p (forth refl))
decided n p false forth back =
    elim (cases_Bool (has_each n p)) [ inl e ↦ absurd (false≢true (back (permutes n p e))) | inr e ↦ sym e ]

-- where all numbers are 1 or more, the rest of the test decides
pub all_some : (n : ℕ) (numbers : List ℕ) → list_all (λ x. ltb 0 x) numbers ≡ true → has_each n (from_zero numbers) ≡ numbers_all n (Some numbers)
all_some n numbers h = sym (ap (λ b. b && has_each n (from_zero numbers)) h)

-- a list that numbers all, or none, is a permutation
pub new_permutes : (n : ℕ) (numbers : Option (List ℕ)) → numbers_all n numbers ≡ true → Permutes n (new_numbers n numbers)
new_permutes n None h = IsPermutation-refl (range_with_len 0 n)
new_permutes n (Some numbers) h = permutes n (from_zero numbers) (and_parts (list_all (λ x. ltb 0 x) numbers) (has_each n (from_zero numbers)) h).1

-- what is drawn from a seed is one
shuffled_permutes : (n i : ℕ) (list : List ℕ) (state : ℕ) → i < n → Permutes n list → Permutes n (shuffle_of i list state).0
shuffled_permutes n zero list state low h = h
shuffled_permutes n (suc i) list state low h =
    shuffled_permutes n i (swap list (suc i) (word state % (i + 2))) (step state) (omega (arith, low))
    (permutes_swap n list (suc i) (word state % (i + 2)) low (omega (arith, low, mod_below (word state) (i + 2) (omega arith))) h)

pub drawn_permutes : (n state : ℕ) → Permutes n (permutation_of n state).0
drawn_permutes zero state = IsPermutation-refl (range_with_len 0 0)
drawn_permutes (suc k) state =
    let same : suc k - 1 ≡ k = omega arith in
    subst (λ i. Permutes (suc k) (shuffle_of i (range_with_len 0 (suc k)) state).0) (sym same)
    (shuffled_permutes (suc k) k (range_with_len 0 (suc k)) state (omega arith) (IsPermutation-refl (range_with_len 0 (suc k))))
