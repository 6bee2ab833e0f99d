-- The positions of a band are apart, and so are the places where two permutations hide them.
use Rattle.std.proofs.Common.{ℕ, zero, suc, ◌+◌, ◌-◌, ◌%◌, ◌<◌, ◌≤◌, ◌≡◌, eqb, pos, List, [], ◌∷◌, ◌++◌, map, length, get_or, take, slice_index, arith, inl, inr, refl, sym, ◌∙◌}
use Rattle.std.specs.List.{All, AllPairs, range_with_len, flat_map}
use Rattle.std.proofs.lemmas.Bool.{false≢true, cases_order, cases_eq, eq-eqb, ne_eqb}
use Rattle.std.proofs.lemmas.List.Elements.{All-cons, All-head, All-tail, All-nil, All-append, All-map, All-take, All-weaker}
use Rattle.std.proofs.lemmas.List.FromFn.{get_or-range_with_len, length-range_with_len}
use Rattle.std.proofs.lemmas.Map.Keys.{IsDistinct-IsPermutation, IsDistinct-from_apart, apart_from_distinct}
use Rattle.bale_items.specs.declared.triple.Triple.{Triple}
use Rattle.mtx_text.specs.Sparse.{SamePlace}
use Rattle.mtx_text.specs.Permutations.{Permutes}
use Rattle.mtx_text.specs.Seeds.{step, word}
use Rattle.mtx_text.specs.Generated.{diagonal, positions, hidden_triangle}
use Rattle.mtx_text.proofs.PlaceOrder.{pairs_head, pairs_tail, pairs_cons, pairs_none}
use Rattle.mtx_text.proofs.Bands.{as_many}

-- ---- Permutations are injective

flips : (x y : ℕ) → eqb x y ≡ eqb y x
flips x y = elim (cases_eq x y) [ inl e ↦ eq-eqb x y e ∙ sym (eq-eqb y x (sym e)) | inr d ↦ ne_eqb x y d ∙ sym (ne_eqb y x (λ e. d (sym e))) ]

ordered_apart : (n : ℕ) (p : List ℕ) (a b : ℕ) → Permutes n p → a < b → b < n → get_or p a 0 ≡ get_or p b 0 → ⊥
ordered_apart n p a b h l m e =
    let size : length p ≡ n = as_many n p h in
    let start = IsDistinct-from_apart eqb (range_with_len 0 n) (λ i j d l m.
    let len : length (range_with_len 0 n) ≡ n = length-range_with_len 0 n in
    let x : get_or (range_with_len 0 n) i d ≡ 0 + i = get_or-range_with_len 0 n i d (omega arith) in
    let y : get_or (range_with_len 0 n) j d ≡ 0 + j = get_or-range_with_len 0 n j d (omega arith) in
    ne_eqb (get_or (range_with_len 0 n) i d) (get_or (range_with_len 0 n) j d) (λ e. omega arith)) in
    let other = IsDistinct-IsPermutation eqb flips (range_with_len 0 n) p h start in
    false≢true (sym (apart_from_distinct eqb p a b 0 other l (omega arith)) ∙ eq-eqb (get_or p a 0) (get_or p b 0) e)

pub injective : (n : ℕ) (p : List ℕ) (a b : ℕ) → Permutes n p → a < n → b < n → get_or p a 0 ≡ get_or p b 0 → a ≡ b
injective n p a b h l m e =
    elim (cases_order a b) [
      | inl same ↦ same
      | inr o ↦ elim o [ inl x ↦ absurd (ordered_apart n p a b h x m e) | inr x ↦ absurd (ordered_apart n p b a h x l (sym e)) ]
    ]

-- ---- Positions

abbrev Differ : ℕ × ℕ → ℕ × ℕ → Type 0
Differ x y = x.0 ≡ y.0 → x.1 ≡ y.1 → ⊥

pairs_append : {X : Type 0} (R : X → X → Type 0) (xs ys : List X) → AllPairs R xs → AllPairs R ys → All (λ x. All (R x) ys) xs → AllPairs R (xs ++ ys)
pairs_append R [] ys a b c = b
pairs_append R (x ∷ xs) ys a b c =
    pairs_cons R x (xs ++ ys) (All-append (R x) xs ys (pairs_head R x xs a) (All-head (λ x. All (R x) ys) x xs c))
    (pairs_append R xs ys (pairs_tail R x xs a) b (All-tail (λ x. All (R x) ys) x xs c))

range_above : (a k : ℕ) → All (λ i. a ≤ i) (range_with_len a k)
range_above a k = λ i d l. (let e : get_or (range_with_len a k) i d ≡ a + i = get_or-range_with_len a k i d (omega (arith, length-range_with_len a k)) in omega arith)

range_below : (a k : ℕ) → All (λ i. i < a + k) (range_with_len a k)
range_below a k = λ i d l. (let n : length (range_with_len a k) ≡ k = length-range_with_len a k in let e : get_or (range_with_len a k) i d ≡ a + i = get_or-range_with_len a k i d (omega arith) in omega arith)

pairs_range : (d a k : ℕ) → AllPairs Differ (map (λ i. (i, i + d)) (range_with_len a k))
pairs_range d a zero = pairs_none Differ
pairs_range d a (suc k) =
    pairs_cons Differ (a, a + d) (map (λ i. (i, i + d)) (range_with_len (a + 1) k))
    (All-map (Differ (a, a + d)) (λ i. (i, i + d)) (range_with_len (a + 1) k) (All-weaker (λ i. a + 1 ≤ i) (λ i. Differ (a, a + d) (i, i + d)) (λ i l e f. omega arith) (range_with_len (a + 1) k) (range_above (a + 1) k)))
    (pairs_range d (a + 1) k)

on_diagonal : (n d : ℕ) → All (λ x. x.1 ≡ x.0 + d) (diagonal n d)
on_diagonal n d = All-map (λ x. x.1 ≡ x.0 + d) (λ i. (i, i + d)) (range_with_len 0 (n - d)) (λ k e l. refl)

beyond : (n d k : ℕ) → All (λ x. x.0 + d ≤ x.1) (flat_map (diagonal n) (range_with_len d k))
beyond n d zero = All-nil (λ x. x.0 + d ≤ x.1)
beyond n d (suc k) = All-append (λ x. x.0 + d ≤ x.1) (diagonal n d) (flat_map (diagonal n) (range_with_len (d + 1) k))
    (All-weaker (λ x. x.1 ≡ x.0 + d) (λ x. x.0 + d ≤ x.1) (λ x e. omega arith) (diagonal n d) (on_diagonal n d))
    (All-weaker (λ x. x.0 + (d + 1) ≤ x.1) (λ x. x.0 + d ≤ x.1) (λ x e. omega arith) (flat_map (diagonal n) (range_with_len (d + 1) k)) (beyond n (d + 1) k))

band_apart : (n d k : ℕ) → AllPairs Differ (flat_map (diagonal n) (range_with_len d k))
band_apart n d zero = pairs_none Differ
band_apart n d (suc k) =
    let rest : List (ℕ × ℕ) = flat_map (diagonal n) (range_with_len (d + 1) k) in
    pairs_append Differ (diagonal n d) rest (pairs_range d 0 (n - d)) (band_apart n (d + 1) k)
    (All-weaker (λ x. x.1 ≡ x.0 + d) (λ x. All (Differ x) rest)
    (λ x e. All-weaker (λ y. y.0 + (d + 1) ≤ y.1) (Differ x) (λ y l a b. omega arith) rest (beyond n (d + 1) k)) (diagonal n d) (on_diagonal n d))

record IsInside (n : ℕ) (x : ℕ × ℕ) : Type 0 where
  row : x.0 < n
  col : x.1 < n

band_inside : (n d k : ℕ) → All (IsInside n) (flat_map (diagonal n) (range_with_len d k))
band_inside n d zero = All-nil (IsInside n)
band_inside n d (suc k) = All-append (IsInside n) (diagonal n d) (flat_map (diagonal n) (range_with_len (d + 1) k))
    (All-map (IsInside n) (λ i. (i, i + d)) (range_with_len 0 (n - d))
    (All-weaker (λ i. i < 0 + (n - d)) (λ i. IsInside n (i, i + d)) (λ i l. record { row = omega arith; col = omega arith }) (range_with_len 0 (n - d)) (range_below 0 (n - d))))
    (band_inside n (d + 1) k)

pairs_take : {X : Type 0} (R : X → X → Type 0) (m : ℕ) (xs : List X) → AllPairs R xs → AllPairs R (take m xs)
pairs_take R zero xs h = pairs_none R
pairs_take R (suc m) [] h = pairs_none R
pairs_take R (suc m) (x ∷ xs) h = pairs_cons R x (take m xs) (All-take (R x) m xs (pairs_head R x xs h)) (pairs_take R m xs (pairs_tail R x xs h))

-- ---- The places of the entries

abbrev pub Apart : Triple → Triple → Type 0
Apart s t = ¬ SamePlace s t

all_hidden : (p q : List ℕ) (P : Triple → Type 0) (Q : ℕ × ℕ → Type 0)
    → ((x : ℕ × ℕ) (w : ℕ) → Q x → P (record { i = slice_index p x.0; j = slice_index q x.1; v = pos (1 + w % 1000) }))
    → (state : ℕ) (xs : List (ℕ × ℕ)) → All Q xs → All P (hidden_triangle p q state xs)
all_hidden p q P Q f state [] h = All-nil P
all_hidden p q P Q f state (x ∷ xs) h =
    All-cons P _ (hidden_triangle p q (step state) xs) (f x (word state) (All-head Q x xs h)) (all_hidden p q P Q f (step state) xs (All-tail Q x xs h))

hidden_apart : (n : ℕ) (p q : List ℕ) (state : ℕ) (xs : List (ℕ × ℕ)) → Permutes n p → Permutes n q → All (IsInside n) xs → AllPairs Differ xs → AllPairs Apart (hidden_triangle p q state xs)
hidden_apart n p q state [] hp hq inside h = pairs_none Apart
hidden_apart n p q state (x ∷ xs) hp hq inside h =
    let here : IsInside n x = All-head (IsInside n) x xs inside in
    let first : Triple = record { i = slice_index p x.0; j = slice_index q x.1; v = pos (1 + word state % 1000) } in
    let others : All (λ y. IsInside n y × Differ x y) xs = λ k d l. (All-tail (IsInside n) x xs inside k d l, pairs_head Differ x xs h k d l) in
    pairs_cons Apart first (hidden_triangle p q (step state) xs)
    (all_hidden p q (Apart first) (λ y. IsInside n y × Differ x y)
    (λ y w g same. g.1 (injective n p x.0 y.0 hp here.row g.0.row same.row) (injective n q x.1 y.1 hq here.col g.0.col same.col))
    (step state) xs others)
    (hidden_apart n p q (step state) xs hp hq (All-tail (IsInside n) x xs inside) (pairs_tail Differ x xs h))

-- the entries of a generated matrix stand at places of their own
pub places_apart : (n m : ℕ) (p q : List ℕ) (state : ℕ) → Permutes n p → Permutes n q → AllPairs Apart (hidden_triangle p q state (positions n m))
places_apart n m p q state hp hq =
    hidden_apart n p q state (positions n m) hp hq (All-take (IsInside n) m (flat_map (diagonal n) (range_with_len 0 n)) (band_inside n 0 n))
    (pairs_take Differ m (flat_map (diagonal n) (range_with_len 0 n)) (band_apart n 0 n))
