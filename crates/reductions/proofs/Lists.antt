-- What the proofs want of lists.
use Rattle.std.proofs.Common.{ℕ, suc, ◌+◌, ◌≤◌, ◌≡◌, Bool, true, cond, nat_eq, ◌&&◌, List, [], ◌∷◌, ◌++◌, Some, map, length, get_or, slice_get, sum_by, All, arith, inl, inr, refl, sym, ap, ◌∙◌, subst}
use Rattle.std.specs.List.{filter, flat_map, fold, range_with_len}
use Rattle.std.specs.Cmp.Lexicographic.{pointwise}
use Rattle.std.proofs.lemmas.Bool.{cases_Bool, cases_eq, eq-eqb, ne_eqb, false≢true}
use Rattle.std.proofs.lemmas.List.{map-id}
use Rattle.std.proofs.lemmas.List.Elements.{All-nil, All-cons, All-head, All-tail, All-append}
use Rattle.std.proofs.lemmas.List.Sums.{sum_by-cons}
use Rattle.std.proofs.lemmas.List.FromFn.{map-range_with_len_more}

-- the numbers below n, and n
pub numbers_more : (n : ℕ) → range_with_len 0 (n + 1) ≡ range_with_len 0 n ++ n ∷ []
numbers_more n =
    sym (map-id (range_with_len 0 (n + 1))) ∙ map-range_with_len_more (λ (x : ℕ). x) 0 n n (omega arith)
    ∙ ap (λ xs. xs ++ n ∷ []) (map-id (range_with_len 0 n))

-- what holds of each image
pub all_mapped : {X Y : Type 0} (P : Y → Type 0) (f : X → Y) (xs : List X) → All P (map f xs) → All (λ x. P (f x)) xs
all_mapped P f [] h = All-nil (λ x. P (f x))
all_mapped P f (x ∷ xs) h = All-cons (λ x. P (f x)) x xs (All-head P (f x) (map f xs) h) (all_mapped P f xs (All-tail P (f x) (map f xs) h))

-- what holds of each element that passes
pub unfiltered : {X : Type 0} (P : X → Type 0) (p : X → Bool) (xs : List X) → All P (filter p xs) → All (λ x. p x ≡ true → P x) xs
unfiltered P p [] h = All-nil (λ x. p x ≡ true → P x)
unfiltered P p (x ∷ xs) h = elim (cases_Bool (p x)) [
  | inl t ↦
      let both : All P (x ∷ filter p xs) = subst (λ b. All P (cond b (x ∷ filter p xs) (filter p xs))) t h in
      All-cons (λ x. p x ≡ true → P x) x xs (λ e. All-head P x (filter p xs) both) (unfiltered P p xs (All-tail P x (filter p xs) both))
  | inr f ↦
      All-cons (λ x. p x ≡ true → P x) x xs (λ e. absurd (false≢true (sym f ∙ e)))
      (unfiltered P p xs (subst (λ b. All P (cond b (x ∷ filter p xs) (filter p xs))) f h))
]

-- a filter of elements each of which has the property once it passes
pub filtered : {X : Type 0} (P : X → Type 0) (p : X → Bool) (xs : List X) → All (λ x. p x ≡ true → P x) xs → All P (filter p xs)
filtered P p [] h = All-nil P
filtered P p (x ∷ xs) h =
    let rest : All P (filter p xs) = filtered P p xs (All-tail (λ x. p x ≡ true → P x) x xs h) in
    elim (cases_Bool (p x)) [
      | inl t ↦ subst (λ b. All P (cond b (x ∷ filter p xs) (filter p xs))) (sym t) (All-cons P x (filter p xs) (All-head (λ x. p x ≡ true → P x) x xs h t) rest)
      | inr f ↦ subst (λ b. All P (cond b (x ∷ filter p xs) (filter p xs))) (sym f) rest
    ]

-- what holds of each list's elements
pub all_flat : {X Y : Type 0} (P : Y → Type 0) (f : X → List Y) (xs : List X) → All (λ x. All P (f x)) xs → All P (flat_map f xs)
all_flat P f [] h = All-nil P
all_flat P f (x ∷ xs) h = All-append P (f x) (flat_map f xs) (All-head (λ x. All P (f x)) x xs h) (all_flat P f xs (All-tail (λ x. All P (f x)) x xs h))

-- and back
pub front_of : {X : Type 0} (P : X → Type 0) (xs ys : List X) → All P (xs ++ ys) → All P xs
front_of P [] ys h = All-nil P
front_of P (x ∷ xs) ys h = All-cons P x xs (All-head P x (xs ++ ys) h) (front_of P xs ys (All-tail P x (xs ++ ys) h))

pub back_of : {X : Type 0} (P : X → Type 0) (xs ys : List X) → All P (xs ++ ys) → All P ys
back_of P [] ys h = h
back_of P (x ∷ xs) ys h = back_of P xs ys (All-tail P x (xs ++ ys) h)

pub each_flat : {X Y : Type 0} (P : Y → Type 0) (f : X → List Y) (xs : List X) → All P (flat_map f xs) → All (λ x. All P (f x)) xs
each_flat P f [] h = All-nil (λ x. All P (f x))
each_flat P f (x ∷ xs) h = All-cons (λ x. All P (f x)) x xs (front_of P (f x) (flat_map f xs) h) (each_flat P f xs (back_of P (f x) (flat_map f xs) h))

-- a fold of two lists, one behind the other
pub fold_on : {X Y : Type 0} (f : Y → X → Y) (y : Y) (xs zs : List X) → fold f y (xs ++ zs) ≡ fold f (fold f y xs) zs
fold_on f y [] zs = refl
fold_on f y (x ∷ xs) zs = fold_on f (f y x) xs zs

-- the lists of all numbers from k on, of which each is that of the element there
pub flat_at : {X Y : Type 0} (g : ℕ → List Y) (h : X → List Y) (k : ℕ) (xs : List X) → ((i : ℕ) (x : X) → slice_get xs i ≡ Some x → g (k + i) ≡ h x)
    → flat_map g (range_with_len k (length xs)) ≡ flat_map h xs
flat_at g h k [] same = refl
flat_at g h k (x ∷ xs) same =
    let here : g k ≡ h x = ap g (let e : k ≡ k + 0 = omega arith in e) ∙ same 0 x refl in
    let rest : flat_map g (range_with_len (k + 1) (length xs)) ≡ flat_map h xs =
    flat_at g h (k + 1) xs (λ i y at. ap g (let e : k + 1 + i ≡ k + suc i = omega arith in e) ∙ same (suc i) y at) in
    ap (λ ys. ys ++ flat_map g (range_with_len (k + 1) (length xs))) here ∙ ap (λ ys. h x ++ ys) rest

-- the sum of numbers, none of which rose, falls by one at least, unless they are the same
pub sum_fell : (xs ys : List ℕ) → length xs ≡ length ys → ((v : ℕ) → get_or xs v 0 ≤ get_or ys v 0)
    → sum_by (λ x. x) xs + cond (pointwise nat_eq xs ys) 0 1 ≤ sum_by (λ x. x) ys
sum_fell [] [] e h = omega arith
sum_fell [] (y ∷ ys) e h = absurd (omega arith)
sum_fell (x ∷ xs) [] e h = absurd (omega arith)
sum_fell (x ∷ xs) (y ∷ ys) e h =
    let rest : sum_by (λ x. x) xs + cond (pointwise nat_eq xs ys) 0 1 ≤ sum_by (λ x. x) ys = sum_fell xs ys (omega (arith, e)) (λ v. h (suc v)) in
    let one : x ≤ y = h 0 in
    elim (cases_eq x y) [
      | inl same ↦
          subst (λ b. sum_by (λ x. x) (x ∷ xs) + cond (b && pointwise nat_eq xs ys) 0 1 ≤ sum_by (λ x. x) (y ∷ ys)) (sym (eq-eqb x y same))
          (omega (arith, rest, sum_by-cons (λ (x : ℕ). x) x xs, sum_by-cons (λ (x : ℕ). x) y ys))
      | inr other ↦
          subst (λ b. sum_by (λ x. x) (x ∷ xs) + cond (b && pointwise nat_eq xs ys) 0 1 ≤ sum_by (λ x. x) (y ∷ ys)) (sym (ne_eqb x y other))
          (omega (arith, other, rest, sum_by-cons (λ (x : ℕ). x) x xs, sum_by-cons (λ (x : ℕ). x) y ys))
    ]

-- One round of all: what falls in each falls in the sum.
pub sums_fell : {X : Type 0} (f h : X → ℕ) (g e : X → X) (xs : List X) → All (λ x. f (e (g x)) + h (g x) ≤ f x) xs → sum_by f (map e (map g xs)) + sum_by h (map g xs) ≤ sum_by f xs
sums_fell f h g e [] a = omega arith
sums_fell f h g e (x ∷ xs) a =
    let one : f (e (g x)) + h (g x) ≤ f x = All-head (λ x. f (e (g x)) + h (g x) ≤ f x) x xs a in
    let rest : sum_by f (map e (map g xs)) + sum_by h (map g xs) ≤ sum_by f xs = sums_fell f h g e xs (All-tail (λ x. f (e (g x)) + h (g x) ≤ f x) x xs a) in
    omega (arith, one, rest, sum_by-cons f (e (g x)) (map e (map g xs)), sum_by-cons h (g x) (map g xs), sum_by-cons f x xs)
