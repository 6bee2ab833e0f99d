-- When a list is a permutation of the numbers below n: each of them comes once.
use Rattle.std.proofs.Common.{ℕ, zero, suc, ◌+◌, ◌*◌, ◌<◌, ◌≤◌, ◌≡◌, Bool, true, false, cond, eqb, List, [], ◌∷◌, length, get_or, set, take, sum_by, IsPermutation, arith, inl, inr, refl, sym, ap, ◌∙◌, subst}
use Rattle.std.specs.List.{All, range_with_len, remove}
use Rattle.std.proofs.lemmas.Bool.{cases_eq, eq-eqb, ne_eqb}
use Rattle.std.proofs.lemmas.List.{nil_from_length, take_all, get_or-set_same, get_or-set_other}
use Rattle.std.proofs.lemmas.List.Elements.{All-head, All-tail, All-cons}
use Rattle.std.proofs.lemmas.List.Sorted.{IsPermutation-refl, IsPermutation-trans, IsPermutation-sym, IsPermutation-cons, IsPermutation-to_front, IsPermutation-remove, All-permutation, length_permutation, sum_by-IsPermutation}
use Rattle.std.proofs.lemmas.List.Sums.{sum_by-cons, sum_by_more, sum_by-take-le, length-filter}
use Rattle.list_laws.specs.Sums.{total}
use Rattle.list_laws.proofs.Sums.{total_bound}
use Rattle.sparse_rows.specs.Deals.{dealt}
use Rattle.sparse_rows.specs.Permutations.{Permutes}
use Rattle.mtx_text.proofs.Shuffles.{range_more}
use Rattle.sparse_rows.proofs.Deals.{dealt_sum}

abbrev pub one_if : Bool → ℕ
one_if b = cond b 1 0

-- how often v comes
abbrev pub times : ℕ → List ℕ → ℕ
times v xs = sum_by (λ x. one_if (eqb x v)) xs

-- a number that comes has a place
pub place_of : (v : ℕ) (xs : List ℕ) → 0 < times v xs → (i : ℕ) × (i < length xs) × (v ≡ get_or xs i v)
place_of v [] h = absurd (omega arith)
place_of v (x ∷ xs) h =
    elim (cases_eq x v) [
      | inl e ↦ (0, omega arith, sym e)
      | inr d ↦
          let s : times v (x ∷ xs) ≡ one_if (eqb x v) + times v xs = sum_by-cons (λ x. one_if (eqb x v)) x xs in
          let z : one_if (eqb x v) ≡ 0 = ap one_if (ne_eqb x v d) in
          let r : (i : ℕ) × (i < length xs) × (v ≡ get_or xs i v) = place_of v xs (omega arith) in
          (suc r.0, omega (arith, r.1), r.2)
    ]

ones : (xs : List ℕ) → sum_by (λ x. 1) xs ≡ length xs
ones [] = refl
ones (x ∷ xs) = sum_by-cons (λ x. 1) x xs ∙ (let h : sum_by (λ x. 1) xs ≡ length xs = ones xs in omega arith)

-- numbers below n that come once at most are n at most
few_below : (n : ℕ) (xs : List ℕ) → All (λ x. x < n) xs → ((v : ℕ) → v < n → times v xs ≤ 1) → length xs ≤ n
few_below n xs below once =
    let all : total n (λ r. sum_by (λ x. 1) (dealt (λ x. x) r xs)) ≡ sum_by (λ x. 1) xs = dealt_sum n (λ x. x) (λ x. 1) xs below in
    let each : (r : ℕ) → r < n → sum_by (λ x. 1) (dealt (λ x. x) r xs) ≤ 1 = λ r l.
    let a : sum_by (λ x. 1) (dealt (λ x. x) r xs) ≡ length (dealt (λ x. x) r xs) = ones (dealt (λ x. x) r xs) in
    let b : length (dealt (λ x. x) r xs) ≡ times r xs = length-filter (λ x. eqb x r) xs in
    let c : times r xs ≤ 1 = once r l in
    omega arith in
    let few : total n (λ r. sum_by (λ x. 1) (dealt (λ x. x) r xs)) ≤ n * 1 = total_bound n 1 _ each in
    let many : sum_by (λ x. 1) xs ≡ length xs = ones xs in
    omega arith

-- an element that differs from n and is below n + 1
lower : (n : ℕ) (xs : List ℕ) → All (λ x. x < suc n) xs → times n xs ≡ 0 → All (λ x. x < n) xs
lower n [] h none = λ k d l. absurd (omega arith)
lower n (x ∷ xs) h none =
    let s : times n (x ∷ xs) ≡ one_if (eqb x n) + times n xs = sum_by-cons (λ x. one_if (eqb x n)) x xs in
    let below : x < suc n = All-head (λ x. x < suc n) x xs h in
    elim (cases_eq x n) [
      | inl e ↦
          let z : one_if (eqb x n) ≡ 1 = ap one_if (eq-eqb x n e) in
          absurd (omega arith)
      | inr d ↦ All-cons (λ x. x < n) x xs (omega arith) (lower n xs (All-tail (λ x. x < suc n) x xs h) (omega arith))
    ]

-- n numbers below n, none twice, are a permutation
pub all_once : (n : ℕ) (p : List ℕ) → length p ≡ n → All (λ x. x < n) p → ((v : ℕ) → v < n → times v p ≤ 1) → Permutes n p
all_once zero p len below once = subst (IsPermutation []) (sym (nil_from_length p len)) (IsPermutation-refl [])
all_once (suc n) p len below once =
    elim (cases_eq (times n p) 0) [
      | inl none ↦
          let few : length p ≤ n = few_below n p (lower n p below none) (λ v l. once v (omega arith)) in
          absurd (omega arith)
      | inr some ↦
          let found : (i : ℕ) × (i < length p) × (n ≡ get_or p i n) = place_of n p (omega arith) in
          let rest : List ℕ = remove p found.0 in
          let moved : IsPermutation p (n ∷ rest) = IsPermutation-remove p found.0 n found.1 found.2 in
          let same : (v : ℕ) → one_if (eqb n v) + times v rest ≡ times v p = λ v.
          sym (sum_by-cons (λ x. one_if (eqb x v)) n rest) ∙ sum_by-IsPermutation (λ x. one_if (eqb x v)) p (n ∷ rest) moved in
          let here : one_if (eqb n n) ≡ 1 = ap one_if (eq-eqb n n refl) in
          let gone : times n rest ≡ 0 = omega (arith, same n, once n (omega arith)) in
          let low : All (λ x. x < suc n) rest = All-tail (λ x. x < suc n) n rest (All-permutation (λ x. x < suc n) p (n ∷ rest) moved below) in
          let size : length (n ∷ rest) ≡ length p = length_permutation p (n ∷ rest) moved in
          let smaller : Permutes n rest = all_once n rest (omega arith) (lower n rest low gone) (λ v l. omega (arith, same v, once v (omega arith))) in
          let more : n + 1 ≡ suc n = omega arith in
          let start : IsPermutation (range_with_len 0 (n + 1)) (n ∷ range_with_len 0 n) =
          subst (λ xs. IsPermutation xs (n ∷ range_with_len 0 n)) (sym (range_more n)) (IsPermutation-to_front (range_with_len 0 n) n) in
          subst (λ k. Permutes k p) more
          (IsPermutation-trans _ _ _ start (IsPermutation-trans _ _ _ (IsPermutation-cons n _ _ smaller) (IsPermutation-sym _ _ moved)))
    ]

-- a permutation has none of its elements twice
range_once : (a n v : ℕ) → times v (range_with_len a n) ≤ 1
range_once a n v = (range_from a n v).1
  where
    range_from : (a n v : ℕ) → (v < a → times v (range_with_len a n) ≡ 0) × (times v (range_with_len a n) ≤ 1)
    range_from a zero v = (λ l. refl, omega arith)
    range_from a (suc n) v =
        let s : times v (a ∷ range_with_len (a + 1) n) ≡ one_if (eqb a v) + times v (range_with_len (a + 1) n) = sum_by-cons (λ x. one_if (eqb x v)) a (range_with_len (a + 1) n) in
        let h : (v < a + 1 → times v (range_with_len (a + 1) n) ≡ 0) × (times v (range_with_len (a + 1) n) ≤ 1) = range_from (a + 1) n v in
        elim (cases_eq a v) [
          | inl e ↦
              let z : one_if (eqb a v) ≡ 1 = ap one_if (eq-eqb a v e) in
              let none : times v (range_with_len (a + 1) n) ≡ 0 = h.0 (omega arith) in
              (λ l. absurd (omega arith), omega arith)
          | inr d ↦
              let z : one_if (eqb a v) ≡ 0 = ap one_if (ne_eqb a v d) in
              (λ l. (let none : times v (range_with_len (a + 1) n) ≡ 0 = h.0 (omega arith) in omega arith), omega (arith, h.1))
        ]

pub none_twice : (n : ℕ) (p : List ℕ) (v : ℕ) → Permutes n p → times v p ≤ 1
none_twice n p v h =
    let same : times v p ≡ times v (range_with_len 0 n) = sum_by-IsPermutation (λ x. one_if (eqb x v)) (range_with_len 0 n) p h in
    omega (arith, range_once 0 n v)

-- a number that came before comes twice
pub comes_twice : (n : ℕ) (p : List ℕ) (i : ℕ) → i < length p → times (get_or p i 0) (take i p) ≡ 1 → Permutes n p → ⊥
comes_twice n p i l before h =
    let v : ℕ = get_or p i 0 in
    let more : times v (take (i + 1) p) ≡ times v (take i p) + one_if (eqb v v) = sum_by_more (λ x. one_if (eqb x v)) p i 0 l in
    let here : one_if (eqb v v) ≡ 1 = ap one_if (eq-eqb v v refl) in
    let part : times v (take (i + 1) p) ≤ times v p = sum_by-take-le (λ x. one_if (eqb x v)) p (i + 1) in
    omega (arith, none_twice n p v h)

-- the marks after one more element
pub marks_more : (p : List ℕ) (seen : List Bool) (i : ℕ) → i < length p → get_or p i 0 < length seen → get_or seen (get_or p i 0) false ≡ false
    → (v : ℕ) → times v (take i p) ≡ one_if (get_or seen v false)
    → times v (take (i + 1) p) ≡ one_if (get_or (set seen (get_or p i 0) true) v false)
marks_more p seen i l within new v h =
    let x : ℕ = get_or p i 0 in
    let more : times v (take (i + 1) p) ≡ times v (take i p) + one_if (eqb x v) = sum_by_more (λ x. one_if (eqb x v)) p i 0 l in
    elim (cases_eq v x) [
      | inl e ↦
          let before : one_if (get_or seen v false) ≡ 0 = ap (λ k. one_if (get_or seen k false)) e ∙ ap one_if new in
          let here : one_if (eqb x v) ≡ 1 = ap one_if (eq-eqb x v (sym e)) in
          let after : one_if (get_or (set seen x true) v false) ≡ 1 =
          ap (λ k. one_if (get_or (set seen x true) k false)) e ∙ ap one_if (get_or-set_same seen x true false within) in
          omega arith
      | inr d ↦
          let here : one_if (eqb x v) ≡ 0 = ap one_if (ne_eqb x v (λ e. d (sym e))) in
          let after : one_if (get_or (set seen x true) v false) ≡ one_if (get_or seen v false) = ap one_if (get_or-set_other seen x v true false d) in
          omega arith
    ]

-- where a list of n numbers was walked to its end
pub walked : (n : ℕ) (p : List ℕ) (seen : List Bool) (i : ℕ) → length p ≡ n → length p ≤ i → All (λ x. x < length p) (take i p)
    → ((v : ℕ) → v < length p → times v (take i p) ≡ one_if (get_or seen v false)) → Permutes n p
walked n p seen i len past below marks =
    let whole : take i p ≡ p = take_all i p past in
    let low : All (λ x. x < n) p = subst (λ k. All (λ x. x < k) p) len (subst (All (λ x. x < length p)) whole below) in
    all_once n p len low (λ v l.
    let one : times v p ≡ one_if (get_or seen v false) = ap (times v) (sym whole) ∙ marks v (omega arith) in
    omega (arith, at_most_one (get_or seen v false)))
  where
    at_most_one : (b : Bool) → one_if b ≤ 1
    at_most_one true = omega arith
    at_most_one false = omega arith
