-- What holds of every deal: sums, counts and filters over the hands are those over the whole list.
use Rattle.std.proofs.Common.{ℕ, zero, suc, ◌+◌, ◌<◌, ◌≤◌, ◌≡◌, Bool, true, false, not, ◌&&◌, cond, eqb, ltb, List, [], ◌∷◌, ◌++◌, sum_by, count_by, IsPermutation, arith, inl, inr, refl, sym, ap, ◌∙◌, subst}
use Rattle.std.specs.List.{All, filter, flat_map, range_with_len}
use Rattle.std.proofs.lemmas.Bool.{cases_Bool, cases_eq, lt-ltb, eq-eqb, ne_eqb, ltb-true, ltb-false, le-ltb}
use Rattle.std.proofs.lemmas.List.{append-nil}
use Rattle.std.proofs.lemmas.List.Concat.{flat_map-append}
use Rattle.std.proofs.lemmas.List.Elements.{All-head, All-tail, filter_agree}
use Rattle.std.proofs.lemmas.List.Sorted.{IsPermutation-refl, IsPermutation-trans, IsPermutation-append_left, IsPermutation-filter_both}
use Rattle.std.proofs.lemmas.List.Sums.{sum_by-cons}
use Rattle.list_laws.specs.Sums.{total}
use Rattle.list_laws.proofs.Sums.{total_same, total_add, total_zero, total_one}
use Rattle.mtx_text.proofs.Shuffles.{range_more}
use Rattle.sparse_rows.specs.Deals.{dealt}

-- ---- Filters of filters

pub filter_cons : {X : Type 0} (p : X → Bool) (x : X) (xs : List X) → filter p (x ∷ xs) ≡ cond (p x) (x ∷ filter p xs) (filter p xs)
filter_cons p x xs = refl

pub filter_filter : {X : Type 0} (p q : X → Bool) (xs : List X) → filter p (filter q xs) ≡ filter (λ x. q x && p x) xs
filter_filter p q [] = refl
filter_filter p q (x ∷ xs) =
    elim (cases_Bool (q x)) [
      | inl t ↦
          ap (λ b. filter p (cond b (x ∷ filter q xs) (filter q xs))) t
          ∙ ap (λ ys. cond (p x) (x ∷ ys) ys) (filter_filter p q xs)
          ∙ ap (λ b. cond (b && p x) (x ∷ filter (λ x. q x && p x) xs) (filter (λ x. q x && p x) xs)) (sym t)
      | inr not_it ↦
          ap (λ b. filter p (cond b (x ∷ filter q xs) (filter q xs))) not_it
          ∙ filter_filter p q xs
          ∙ ap (λ b. cond (b && p x) (x ∷ filter (λ x. q x && p x) xs) (filter (λ x. q x && p x) xs)) (sym not_it)
    ]

pub filter_whole : {X : Type 0} (p : X → Bool) (xs : List X) → All (λ x. p x ≡ true) xs → filter p xs ≡ xs
filter_whole p [] h = refl
filter_whole p (x ∷ xs) h =
    ap (λ b. cond b (x ∷ filter p xs) (filter p xs)) (All-head (λ x. p x ≡ true) x xs h)
    ∙ ap (λ ys. x ∷ ys) (filter_whole p xs (All-tail (λ x. p x ≡ true) x xs h))

pub filter_none : {X : Type 0} (p : X → Bool) (xs : List X) → ((x : X) → p x ≡ false) → filter p xs ≡ []
filter_none p [] h = refl
filter_none p (x ∷ xs) h = ap (λ b. cond b (x ∷ filter p xs) (filter p xs)) (h x) ∙ filter_none p xs h

-- a filter of a hand is the hand of the filtered list
pub filter_dealt : {X : Type 0} (owner : X → ℕ) (r : ℕ) (p : X → Bool) (xs : List X) → filter p (dealt owner r xs) ≡ dealt owner r (filter p xs)
filter_dealt owner r p xs =
    filter_filter p (λ x. eqb (owner x) r) xs
    ∙ filter_agree (λ x. eqb (owner x) r && p x) (λ x. p x && eqb (owner x) r) (λ x. and_turned (eqb (owner x) r) (p x)) xs
    ∙ sym (filter_filter (λ x. eqb (owner x) r) p xs)
  where
    and_turned : (a b : Bool) → (a && b) ≡ (b && a)
    and_turned true true = refl
    and_turned true false = refl
    and_turned false true = refl
    and_turned false false = refl

-- ---- Sums

one_term : (n j c : ℕ) → j < n → total n (λ r. cond (eqb j r) c 0) ≡ c
one_term n j c l =
    let one : total n (λ r. cond (eqb j r) c 0) + 0 ≡ total n (λ r. 0) + cond (eqb j j) c 0 =
    total_one n (λ r. 0) (λ r. cond (eqb j r) c 0) j l (λ k d. ap (λ b. cond b c 0) (sym (ne_eqb j k (λ e. d (sym e))))) in
    let none : total n (λ r. 0) ≡ 0 = total_zero n (λ r. 0) (λ k l. refl) in
    let here : cond (eqb j j) c 0 ≡ c = ap (λ b. cond b c 0) (eq-eqb j j refl) in
    omega arith

term : {X : Type 0} (owner : X → ℕ) (f : X → ℕ) (x : X) (xs : List X) (r : ℕ)
    → sum_by f (dealt owner r (x ∷ xs)) ≡ cond (eqb (owner x) r) (f x) 0 + sum_by f (dealt owner r xs)
term owner f x xs r =
    elim (cases_Bool (eqb (owner x) r)) [
      | inl t ↦
          ap (λ b. sum_by f (cond b (x ∷ dealt owner r xs) (dealt owner r xs))) t
          ∙ sum_by-cons f x (dealt owner r xs)
          ∙ ap (λ b. cond b (f x) 0 + sum_by f (dealt owner r xs)) (sym t)
      | inr other ↦
          let z : sum_by f (dealt owner r xs) ≡ 0 + sum_by f (dealt owner r xs) = omega arith in
          ap (λ b. sum_by f (cond b (x ∷ dealt owner r xs) (dealt owner r xs))) other
          ∙ z
          ∙ ap (λ b. cond b (f x) 0 + sum_by f (dealt owner r xs)) (sym other)
    ]

-- the sum over the ranks of the sums over their hands is the sum over the list
pub dealt_sum : {X : Type 0} (n : ℕ) (owner : X → ℕ) (f : X → ℕ) (xs : List X) → All (λ x. owner x < n) xs
    → total n (λ r. sum_by f (dealt owner r xs)) ≡ sum_by f xs
dealt_sum n owner f [] h = total_zero n (λ r. 0) (λ k l. refl)
dealt_sum n owner f (x ∷ xs) h =
    let apart : total n (λ r. sum_by f (dealt owner r (x ∷ xs))) ≡ total n (λ r. cond (eqb (owner x) r) (f x) 0 + sum_by f (dealt owner r xs)) =
    total_same n _ _ (λ r l. term owner f x xs r) in
    let two : total n (λ r. cond (eqb (owner x) r) (f x) 0 + sum_by f (dealt owner r xs)) ≡ total n (λ r. cond (eqb (owner x) r) (f x) 0) + total n (λ r. sum_by f (dealt owner r xs)) =
    total_add n (λ r. cond (eqb (owner x) r) (f x) 0) (λ r. sum_by f (dealt owner r xs)) in
    let first : total n (λ r. cond (eqb (owner x) r) (f x) 0) ≡ f x = one_term n (owner x) (f x) (All-head (λ x. owner x < n) x xs h) in
    let rest : total n (λ r. sum_by f (dealt owner r xs)) ≡ sum_by f xs = dealt_sum n owner f xs (All-tail (λ x. owner x < n) x xs h) in
    let all : sum_by f (x ∷ xs) ≡ f x + sum_by f xs = sum_by-cons f x xs in
    omega arith

-- the same for counts
pub dealt_count : {X : Type 0} (n : ℕ) (owner : X → ℕ) (p : X → Bool) (xs : List X) → All (λ x. owner x < n) xs
    → total n (λ r. count_by p (dealt owner r xs)) ≡ count_by p xs
dealt_count n owner p xs h = dealt_sum n owner (λ x. cond (p x) 1 0) xs h

-- ---- The hands together

below_more : (k n : ℕ) → (ltb k (n + 1) && ltb k n) ≡ ltb k n
below_more k n =
    elim (cases_Bool (ltb k n)) [
      | inl t ↦ ap (λ b. b && ltb k n) (lt-ltb k (n + 1) (let l : k < n = ltb-true k n t in omega arith))
      | inr no_more ↦ ap (λ b. ltb k (n + 1) && b) no_more ∙ never (ltb k (n + 1)) ∙ sym no_more
    ]
  where
    never : (b : Bool) → (b && false) ≡ false
    never true = refl
    never false = refl

last_one : (k n : ℕ) → (ltb k (n + 1) && not (ltb k n)) ≡ eqb k n
last_one k n =
    elim (cases_eq k n) [
      | inl e ↦
          ap (λ b. b && not (ltb k n)) (lt-ltb k (n + 1) (omega arith))
          ∙ ap not (le-ltb k n (omega arith))
          ∙ sym (eq-eqb k n e)
      | inr d ↦ elim (cases_Bool (ltb k n)) [
        | inl t ↦ ap (λ b. ltb k (n + 1) && not b) t ∙ never (ltb k (n + 1)) ∙ sym (ne_eqb k n d)
        | inr no_more ↦
            let l : n ≤ k = ltb-false k n no_more in
            ap (λ b. b && not (ltb k n)) (le-ltb k (n + 1) (omega arith)) ∙ sym (ne_eqb k n d)
      ]
    ]
  where
    never : (b : Bool) → (b && false) ≡ false
    never true = refl
    never false = refl

-- the hands of the ranks below n, one after the other, have the elements of those ranks
pub together : {X : Type 0} (n : ℕ) (owner : X → ℕ) (xs : List X)
    → IsPermutation (filter (λ x. ltb (owner x) n) xs) (flat_map (λ r. dealt owner r xs) (range_with_len 0 n))
together zero owner xs = subst (λ ys. IsPermutation ys []) (sym (filter_none (λ x. ltb (owner x) 0) xs (λ x. le-ltb (owner x) 0 (omega arith)))) (IsPermutation-refl [])
together {X} (suc n) owner xs =
    let up : List X = filter (λ x. ltb (owner x) (n + 1)) xs in
    let front : filter (λ x. ltb (owner x) n) up ≡ filter (λ x. ltb (owner x) n) xs =
    filter_filter (λ x. ltb (owner x) n) (λ x. ltb (owner x) (n + 1)) xs ∙ filter_agree _ _ (λ x. below_more (owner x) n) xs in
    let last : filter (λ x. not (ltb (owner x) n)) up ≡ dealt owner n xs =
    filter_filter (λ x. not (ltb (owner x) n)) (λ x. ltb (owner x) (n + 1)) xs ∙ filter_agree _ _ (λ x. last_one (owner x) n) xs in
    let halves : IsPermutation up (filter (λ x. ltb (owner x) n) xs ++ dealt owner n xs) =
    subst (λ ys. IsPermutation up (ys ++ dealt owner n xs)) front (subst (λ ys. IsPermutation up (filter (λ x. ltb (owner x) n) up ++ ys)) last
    (IsPermutation-filter_both (λ x. ltb (owner x) n) (λ x. not (ltb (owner x) n)) (λ x. refl) up)) in
    let more : flat_map (λ r. dealt owner r xs) (range_with_len 0 (n + 1)) ≡ flat_map (λ r. dealt owner r xs) (range_with_len 0 n) ++ dealt owner n xs =
    ap (flat_map (λ r. dealt owner r xs)) (range_more n)
    ∙ flat_map-append (λ r. dealt owner r xs) (range_with_len 0 n) (n ∷ [])
    ∙ ap (λ ys. flat_map (λ r. dealt owner r xs) (range_with_len 0 n) ++ ys) (append-nil (dealt owner n xs)) in
    let joined : IsPermutation up (flat_map (λ r. dealt owner r xs) (range_with_len 0 (n + 1))) =
    subst (IsPermutation up) (sym more) (IsPermutation-trans _ _ _ halves (IsPermutation-append_left (dealt owner n xs) _ _ (together n owner xs))) in
    let one : n + 1 ≡ suc n = omega arith in
    subst (λ k. IsPermutation (filter (λ x. ltb (owner x) k) xs) (flat_map (λ r. dealt owner r xs) (range_with_len 0 k))) one joined

-- where each element has an owner below n, that is a permutation of the list
pub hands_together : {X : Type 0} (n : ℕ) (owner : X → ℕ) (xs : List X) → All (λ x. owner x < n) xs
    → IsPermutation xs (flat_map (λ r. dealt owner r xs) (range_with_len 0 n))
hands_together n owner xs h =
    subst (λ ys. IsPermutation ys (flat_map (λ r. dealt owner r xs) (range_with_len 0 n)))
    (filter_whole (λ x. ltb (owner x) n) xs (λ k d l. lt-ltb _ n (h k d l))) (together n owner xs)
