-- Counts over lists.
use Rattle.std.proofs.Common.{ℕ, zero, suc, ◌+◌, ◌*◌, ◌<◌, ◌≤◌, ◌≡◌, Bool, true, false, not, cond, eqb, List, [], ◌∷◌, ◌++◌, map, length, get_or, sum, sum_by, count_by, All, arith, inl, inr, refl, sym, ap, ◌∙◌}
use Rattle.std.specs.List.{Contains, filter, position_or_len}
use Rattle.std.proofs.lemmas.Bool.{cases_Bool, cases_eq}
use Rattle.std.proofs.lemmas.List.Elements.{All-head, All-tail, All-nil, All-cons, All-weaker}
use Rattle.std.proofs.lemmas.List.Sums.{sum-map, sum_by-cons, sum_by-append}
use Rattle.list_laws.specs.Sums.{total}
use Rattle.list_laws.proofs.Sums.{total_same, total_const, total_lt}
use Rattle.sparse_rows.proofs.Deals.{dealt_sum}
use Rattle.sparse_rows.proofs.Doubles.{one_if}
use Rattle.sparse_rows.specs.Deals.{dealt}

pub count_cons : {X : Type 0} (p : X → Bool) (x : X) (xs : List X) → count_by p (x ∷ xs) ≡ one_if (p x) + count_by p xs
count_cons p x xs = sum_by-cons (λ y. cond (p y) 1 0) x xs

pub count_append : {X : Type 0} (p : X → Bool) (xs ys : List X) → count_by p (xs ++ ys) ≡ count_by p xs + count_by p ys
count_append p xs ys = sum_by-append (λ y. cond (p y) 1 0) xs ys

-- what is counted is there
pub found_by : {X : Type 0} (p : X → Bool) (xs : List X) → 0 < count_by p xs → (x : X) × (Contains xs x) × (p x ≡ true)
found_by p [] h = absurd (omega arith)
found_by p (x ∷ xs) h =
    elim (cases_Bool (p x)) [
      | inl t ↦ (x, (0, omega arith, refl), t)
      | inr f ↦
          let z : one_if (p x) ≡ 0 = ap one_if f in
          let c : count_by p (x ∷ xs) ≡ one_if (p x) + count_by p xs = count_cons p x xs in
          let r = found_by p xs (omega arith) in
          (r.0, (suc r.1.0, omega (arith, r.1.1), r.1.2), r.2)
    ]

-- what is there is counted
pub counted : {X : Type 0} (p : X → Bool) (xs : List X) (x : X) → Contains xs x → p x ≡ true → 0 < count_by p xs
counted p [] x h t = absurd (omega (arith, h.1))
counted {X} p (y ∷ ys) x (zero, l, is) t =
    let here : one_if (p y) ≡ 1 = ap one_if (ap p is ∙ t) in
    let c : count_by p (y ∷ ys) ≡ one_if (p y) + count_by p ys = count_cons p y ys in
    omega arith
counted {X} p (y ∷ ys) x (suc k, l, is) t =
    let c : count_by p (y ∷ ys) ≡ one_if (p y) + count_by p ys = count_cons p y ys in
    let r : 0 < count_by p ys = counted p ys x (k, omega arith, is) t in
    omega arith

-- where none is counted, none passes
pub none_counted : {X : Type 0} (p : X → Bool) (xs : List X) → count_by p xs ≡ 0 → All (λ x. p x ≡ false) xs
none_counted p [] h = All-nil (λ x. p x ≡ false)
none_counted p (x ∷ xs) h =
    let c : count_by p (x ∷ xs) ≡ one_if (p x) + count_by p xs = count_cons p x xs in
    elim (cases_Bool (p x)) [
      | inl t ↦ (let one : one_if (p x) ≡ 1 = ap one_if t in absurd (omega arith))
      | inr f ↦ All-cons (λ x. p x ≡ false) x xs f (none_counted p xs (omega arith))
    ]

-- of the only element that passes, the sum over those that pass is its own
pub only_one : {X : Type 0} (p : X → Bool) (f : X → ℕ) (xs : List X) → count_by p xs ≡ 1 → All (λ x. p x ≡ true → f x ≡ sum_by (λ x. cond (p x) (f x) 0) xs) xs
only_one p f [] h = absurd (omega arith)
only_one p f (x ∷ xs) h =
    let c : count_by p (x ∷ xs) ≡ one_if (p x) + count_by p xs = count_cons p x xs in
    let s : sum_by (λ x. cond (p x) (f x) 0) (x ∷ xs) ≡ cond {A = ℕ} (p x) (f x) 0 + sum_by (λ x. cond (p x) (f x) 0) xs = sum_by-cons (λ x. cond (p x) (f x) 0) x xs in
    elim (cases_Bool (p x)) [
      | inl t ↦
          let one : one_if (p x) ≡ 1 = ap one_if t in
          let none : All (λ y. p y ≡ false) xs = none_counted p xs (omega arith) in
          let zeros : sum_by (λ x. cond (p x) (f x) 0) xs ≡ 0 = no_sum p f xs none in
          let mine : cond {A = ℕ} (p x) (f x) 0 ≡ f x = ap (λ b. cond {A = ℕ} b (f x) 0) t in
          All-cons (λ y. p y ≡ true → f y ≡ sum_by (λ x. cond (p x) (f x) 0) (x ∷ xs)) x xs (λ u. omega arith)
          (All-weaker (λ y. p y ≡ false) (λ y. p y ≡ true → f y ≡ sum_by (λ x. cond (p x) (f x) 0) (x ∷ xs)) (λ y n u. absurd (cc)) xs none)
      | inr n ↦
          let z : one_if (p x) ≡ 0 = ap one_if n in
          let no : cond {A = ℕ} (p x) (f x) 0 ≡ 0 = ap (λ b. cond {A = ℕ} b (f x) 0) n in
          All-cons (λ y. p y ≡ true → f y ≡ sum_by (λ x. cond (p x) (f x) 0) (x ∷ xs)) x xs (λ u. absurd (cc))
          (All-weaker (λ y. p y ≡ true → f y ≡ sum_by (λ x. cond (p x) (f x) 0) xs) (λ y. p y ≡ true → f y ≡ sum_by (λ x. cond (p x) (f x) 0) (x ∷ xs)) (λ y e u. e u ∙ omega arith) xs (only_one p f xs (omega arith)))
    ]
  where
    no_sum : {X : Type 0} (p : X → Bool) (f : X → ℕ) (xs : List X) → All (λ y. p y ≡ false) xs → sum_by (λ x. cond (p x) (f x) 0) xs ≡ 0
    no_sum p f [] h = refl
    no_sum p f (x ∷ xs) h =
        let s : sum_by (λ x. cond (p x) (f x) 0) (x ∷ xs) ≡ cond {A = ℕ} (p x) (f x) 0 + sum_by (λ x. cond (p x) (f x) 0) xs = sum_by-cons (λ x. cond (p x) (f x) 0) x xs in
        let no : cond {A = ℕ} (p x) (f x) 0 ≡ 0 = ap (λ b. cond {A = ℕ} b (f x) 0) (All-head (λ y. p y ≡ false) x xs h) in
        let rest : sum_by (λ x. cond (p x) (f x) 0) xs ≡ 0 = no_sum p f xs (All-tail (λ y. p y ≡ false) x xs h) in
        omega arith

-- the sum over the elements that pass, and a sum of one number
pub sum_passing : {X : Type 0} (p : X → Bool) (f : X → ℕ) (xs : List X) → sum_by (λ x. cond (p x) (f x) 0) xs ≡ sum (map f (filter p xs))
sum_passing p f xs = passing p f xs ∙ sym (sum-map f (filter p xs))
  where
    by : {X : Type 0} (f : X → ℕ) (passes : Bool) (x : X) (ys : List X) → cond {A = ℕ} passes (f x) 0 + sum_by f ys ≡ sum_by f (cond passes (x ∷ ys) ys)
    by f true x ys = sym (sum_by-cons f x ys)
    by f false x ys = omega arith

    passing : {X : Type 0} (p : X → Bool) (f : X → ℕ) (xs : List X) → sum_by (λ x. cond (p x) (f x) 0) xs ≡ sum_by f (filter p xs)
    passing p f [] = refl
    passing p f (x ∷ xs) =
        sum_by-cons (λ x. cond (p x) (f x) 0) x xs ∙ ap (λ k. cond {A = ℕ} (p x) (f x) 0 + k) (passing p f xs) ∙ by f (p x) x (filter p xs)

pub sum_of_one : (xs : List ℕ) → length xs ≡ 1 → sum xs ≡ get_or xs 0 0
sum_of_one [] one = absurd (omega arith)
sum_of_one (x ∷ []) one = omega arith
sum_of_one (x ∷ y ∷ ys) one = absurd (omega arith)

-- the only place of an element that passes is the first
pub only_place : {X : Type 0} (p : X → Bool) (xs : List X) (k : ℕ) (d : X) → k < length xs → p (get_or xs k d) ≡ true → count_by p xs ≡ 1 → position_or_len p xs ≡ k
only_place p [] k d l t h = absurd (omega arith)
only_place p (x ∷ xs) zero d l t h = ap (λ b. cond (not b) (1 + position_or_len p xs) 0) t
only_place p (x ∷ xs) (suc k) d l t h =
    let c : count_by p (x ∷ xs) ≡ one_if (p x) + count_by p xs = count_cons p x xs in
    let r : 0 < count_by p xs = counted p xs (get_or xs k d) (k, omega arith, get_same xs k d (omega arith)) t in
    elim (cases_Bool (p x)) [
      | inl y ↦ (let one : one_if (p x) ≡ 1 = ap one_if y in absurd (omega arith))
      | inr n ↦
          let z : one_if (p x) ≡ 0 = ap one_if n in
          ap (λ b. cond (not b) (1 + position_or_len p xs) 0) n ∙ ap (λ m. 1 + m) (only_place p xs k d (omega arith) t (omega arith)) ∙ omega arith
    ]
  where
    get_same : {X : Type 0} (xs : List X) (k : ℕ) (d : X) → k < length xs → get_or xs k (get_or xs k d) ≡ get_or xs k d
    get_same [] k d l = absurd (omega arith)
    get_same (x ∷ xs) zero d l = refl
    get_same (x ∷ xs) (suc k) d l = get_same xs k d (omega arith)

-- and there is one
pub a_place : {X : Type 0} (p : X → Bool) (xs : List X) (d : X) → 0 < count_by p xs → (k : ℕ) × (k < length xs) × (p (get_or xs k d) ≡ true)
a_place p [] d h = absurd (omega arith)
a_place p (x ∷ xs) d h =
    elim (cases_Bool (p x)) [
      | inl t ↦ (0, omega arith, t)
      | inr f ↦
          let z : one_if (p x) ≡ 0 = ap one_if f in
          let c : count_by p (x ∷ xs) ≡ one_if (p x) + count_by p xs = count_cons p x xs in
          let r = a_place p xs d (omega arith) in
          (suc r.0, omega (arith, r.1), r.2)
    ]

-- the elements of a list by their numbers below n
pub count_total : {X : Type 0} (n : ℕ) (f : X → ℕ) (xs : List X) → All (λ x. f x < n) xs → total n (λ i. count_by (λ x. eqb (f x) i) xs) ≡ length xs
count_total {X} n f xs low = total_same n _ _ (λ i l. each i xs) ∙ dealt_sum n f (λ x. 1) xs low ∙ ones xs
  where
    ones : {X : Type 0} (xs : List X) → sum_by (λ x. 1) xs ≡ length xs
    ones [] = refl
    ones (x ∷ xs) = sum_by-cons (λ x. 1) x xs ∙ ap (λ k. 1 + k) (ones xs) ∙ omega arith

    zero_first : (k : ℕ) → 0 + k ≡ k
    zero_first k = omega arith

    each : (i : ℕ) (ys : List X) → count_by (λ x. eqb (f x) i) ys ≡ sum_by (λ x. 1) (dealt f i ys)
    each i [] = refl
    each i (y ∷ ys) =
        count_cons (λ x. eqb (f x) i) y ys
        ∙ ap (λ k. one_if (eqb (f y) i) + k) (each i ys)
        ∙ (elim (cases_Bool (eqb (f y) i)) [
          | inl t ↦ ap (λ b. one_if b + sum_by (λ x. 1) (dealt f i ys)) t ∙ sym (sum_by-cons (λ x. 1) y (dealt f i ys)) ∙ ap (λ b. sum_by (λ x. 1) (cond b (y ∷ dealt f i ys) (dealt f i ys))) (sym t)
          | inr u ↦ ap (λ b. one_if b + sum_by (λ x. 1) (dealt f i ys)) u ∙ zero_first (sum_by (λ x. 1) (dealt f i ys)) ∙ ap (λ b. sum_by (λ x. 1) (cond b (y ∷ dealt f i ys) (dealt f i ys))) (sym u)
        ])

-- where none comes twice and there are n, each comes once; and where each comes and there are n,
-- none comes twice
pub all_once : (n : ℕ) (f : ℕ → ℕ) → ((i : ℕ) → i < n → f i ≤ 1) → n ≤ total n f → (i : ℕ) → i < n → f i ≡ 1
all_once n f few many i l =
    elim (cases_eq (f i) 1) [
      | inl one ↦ one
      | inr other ↦
          let low : f i ≤ 1 = few i l in
          let c : total n (λ _. 1) ≡ n * 1 = total_const n 1 in
          let less : total n f < total n (λ _. 1) = total_lt n f (λ _. 1) i l (omega arith) few in
          absurd (omega arith)
    ]

pub none_twice : (n : ℕ) (f : ℕ → ℕ) → ((i : ℕ) → i < n → 1 ≤ f i) → total n f ≤ n → (i : ℕ) → i < n → f i ≡ 1
none_twice n f all few i l =
    elim (cases_eq (f i) 1) [
      | inl one ↦ one
      | inr other ↦
          let high : 1 ≤ f i = all i l in
          let c : total n (λ _. 1) ≡ n * 1 = total_const n 1 in
          let more : total n (λ _. 1) < total n f = total_lt n (λ _. 1) f i l (omega arith) all in
          absurd (omega arith)
    ]
