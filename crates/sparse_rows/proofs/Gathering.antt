-- Triples that stand at places of their own, put in order: they are the same triples with the same
-- values, and a rank's part of them is the rank's triples in order.
use Rattle.std.proofs.Common.{ℕ, ◌+◌, ◌%◌, ◌<◌, ◌≡◌, Bool, true, false, cond, eqb, List, [], ◌∷◌, ◌++◌, Some, None, map, get_or, IsPermutation, inl, inr, refl, sym, ap, ◌∙◌, subst}
use Rattle.std.specs.List.{All, AllPairs, filter, flat_map, range_with_len}
use Rattle.std.proofs.lemmas.Bool.{cases_Bool, false_from_ne_true}
use Rattle.std.proofs.lemmas.List.Elements.{All-head, All-tail, All-filter, All-map}
use Rattle.std.proofs.lemmas.List.Sorted.{IsPermutation-refl, IsPermutation-sym, IsPermutation-trans, IsPermutation-cons, IsPermutation-middle, IsPermutation-to_front, All-permutation}
use Rattle.std.proofs.lemmas.List.{append-nil}
use Rattle.std.proofs.lemmas.List.Concat.{flat_map-append}
use Rattle.std.proofs.lemmas.List.Sums.{fold-append}
use Rattle.std.proofs.lemmas.Simd.{map-map}
use Rattle.bale_items.specs.declared.Item.{Item}
use Rattle.bale_items.specs.declared.triple.Triple.{Triple}
use Rattle.mtx_text.specs.Sparse.{SamePlace}
use Rattle.mtx_text.specs.Maps.{is_at, value_at}
use Rattle.mtx_text.specs.Cells.{is_before, InOrder, with_value_raised, raised_all, gathered_cells}
use Rattle.mtx_text.proofs.PlaceOrder.{pairs_head, pairs_tail, pairs_cons, pairs_none, place_cases, not_same}
use Rattle.mtx_text.proofs.Raised.{at_parts, lifted, most, value_raised, raised_first, raised_later, same_cells}
use Rattle.mtx_text.proofs.Gathered.{gathered_permutes, gathered_push, gathered_ordered, gathered_itself}
use Rattle.mtx_text.proofs.Shuffles.{range_more}
use Rattle.sparse_rows.specs.Deals.{dealt}
use Rattle.sparse_rows.proofs.Deals.{hands_together}
use Rattle.sparse_rows.proofs.EveryEntry.{came_to, same_map}

-- two triples at places of their own
abbrev pub Differ : Triple → Triple → Type 0
Differ s t = ¬ SamePlace s t

pub pairs_filter : {X : Type 0} (R : X → X → Type 0) (p : X → Bool) (xs : List X) → AllPairs R xs → AllPairs R (filter p xs)
pairs_filter R p [] h = h
pairs_filter R p (x ∷ xs) h =
    let rest : AllPairs R (filter p xs) = pairs_filter R p xs (pairs_tail R x xs h) in
    elim (cases_Bool (p x)) [
      | inl t ↦
          subst (λ b. AllPairs R (cond b (x ∷ filter p xs) (filter p xs))) (sym t)
          (pairs_cons R x (filter p xs) (All-filter p (R x) xs (pairs_head R x xs h)) rest)
      | inr f ↦ subst (λ b. AllPairs R (cond b (x ∷ filter p xs) (filter p xs))) (sym f) rest
    ]

-- elements that a function keeps apart are apart after it
pub pairs_map : {X Y : Type 0} (P : X → Type 0) (R : X → X → Type 0) (Q : Y → Y → Type 0) (f : X → Y) (xs : List X)
    → ((x y : X) → P x → P y → R x y → Q (f x) (f y)) → All P xs → AllPairs R xs → AllPairs Q (map f xs)
pairs_map P R Q f [] keeps all h = pairs_none Q
pairs_map P R Q f (x ∷ xs) keeps all h =
    pairs_cons Q (f x) (map f xs)
    (All-map (Q (f x)) f xs (λ k d l. keeps x (get_or xs k d) (All-head P x xs all) (All-tail P x xs all k d l) (pairs_head R x xs h k d l)))
    (pairs_map P R Q f xs keeps (All-tail P x xs all) (pairs_tail R x xs h))

pub ordered_differ : (cells : List Triple) → InOrder cells → AllPairs Differ cells
ordered_differ cells h = λ i j d l m same.
    not_same (get_or cells i d).i (get_or cells i d).j (get_or cells j d).i (get_or cells j d).j (h i j d l m) same.row same.col

-- ---- The same triples

raised_moves : (t : Triple) (cells : List Triple) → All (Differ t) cells → IsPermutation (t ∷ cells) (with_value_raised t cells)
raised_moves t [] h = IsPermutation-refl (t ∷ [])
raised_moves t (c ∷ cells) h =
    elim (place_cases t c) [
      | inl first ↦ subst (IsPermutation (t ∷ c ∷ cells)) (sym (raised_first t c cells first)) (IsPermutation-refl (t ∷ c ∷ cells))
      | inr o ↦ elim o [
        | inl same ↦ absurd (All-head (Differ t) c cells h (record { row = same.0; col = same.1 }))
        | inr later ↦
            subst (IsPermutation (t ∷ c ∷ cells)) (sym (raised_later t c cells later))
            (IsPermutation-trans (t ∷ c ∷ cells) (c ∷ t ∷ cells) (c ∷ with_value_raised t cells)
            (IsPermutation-sym (c ∷ t ∷ cells) (t ∷ c ∷ cells) (IsPermutation-middle (c ∷ []) t cells))
            (IsPermutation-cons c (t ∷ cells) (with_value_raised t cells) (raised_moves t cells (All-tail (Differ t) c cells h))))
      ]
    ]

pub gathered_cons : (t : Triple) (ts : List Triple) → gathered_cells (t ∷ ts) ≡ with_value_raised t (gathered_cells ts)
gathered_cons t ts = gathered_permutes (ts ++ t ∷ []) (t ∷ ts) (IsPermutation-to_front ts t) ∙ gathered_push ts t

pub gathered_moves : (ts : List Triple) → AllPairs Differ ts → IsPermutation ts (gathered_cells ts)
gathered_moves [] h = IsPermutation-refl []
gathered_moves (t ∷ ts) h =
    let rest : IsPermutation ts (gathered_cells ts) = gathered_moves ts (pairs_tail Differ t ts h) in
    subst (IsPermutation (t ∷ ts)) (sym (gathered_cons t ts))
    (IsPermutation-trans (t ∷ ts) (t ∷ gathered_cells ts) (with_value_raised t (gathered_cells ts)) (IsPermutation-cons t ts (gathered_cells ts) rest)
    (raised_moves t (gathered_cells ts) (All-permutation (Differ t) ts (gathered_cells ts) rest (pairs_head Differ t ts h))))

-- ---- The same values

no_value : (i j : ℕ) (t : Triple) (ts : List Triple) → is_at i j t ≡ true → All (Differ t) ts → value_at ts i j ≡ None
no_value i j t [] here h = refl
no_value i j t (u ∷ ts) here h =
    let away : is_at i j u ≡ false = false_from_ne_true (is_at i j u) (λ there.
    let p : (t.i ≡ i) × (t.j ≡ j) = at_parts i j t here in
    let q : (u.i ≡ i) × (u.j ≡ j) = at_parts i j u there in
    All-head (Differ t) u ts h (record { row = p.0 ∙ sym q.0; col = p.1 ∙ sym q.1 })) in
    ap (λ b. cond b (Some u.v) (value_at ts i j)) away ∙ no_value i j t ts here (All-tail (Differ t) u ts h)

lifted_first : (i j : ℕ) (t : Triple) (ts : List Triple) → All (Differ t) ts → lifted i j t (value_at ts i j) ≡ value_at (t ∷ ts) i j
lifted_first i j t ts h =
    elim (cases_Bool (is_at i j t)) [
      | inl here ↦
          ap (λ b. cond b (Some (most (value_at ts i j) t.v)) (value_at ts i j)) here
          ∙ ap (λ o. Some (most o t.v)) (no_value i j t ts here h)
          ∙ ap (λ b. cond b (Some t.v) (value_at ts i j)) (sym here)
      | inr away ↦
          ap (λ b. cond b (Some (most (value_at ts i j) t.v)) (value_at ts i j)) away
          ∙ ap (λ b. cond b (Some t.v) (value_at ts i j)) (sym away)
    ]

pub value_gathered : (ts : List Triple) (i j : ℕ) → AllPairs Differ ts → value_at (gathered_cells ts) i j ≡ value_at ts i j
value_gathered [] i j h = refl
value_gathered (t ∷ ts) i j h =
    ap (λ cells. value_at cells i j) (gathered_cons t ts)
    ∙ value_raised i j t (gathered_cells ts) (gathered_ordered ts)
    ∙ ap (lifted i j t) (value_gathered ts i j (pairs_tail Differ t ts h))
    ∙ lifted_first i j t ts (pairs_head Differ t ts h)

-- ---- A rank's part

-- row i belongs to rank i mod n
abbrev pub row_of : ℕ → Triple → ℕ
row_of n t = t.i % n

value_dealt : (n r i j : ℕ) (ts : List Triple) → value_at (dealt (row_of n) r ts) i j ≡ cond (eqb (i % n) r) (value_at ts i j) None
value_dealt n r i j [] = elim (cases_Bool (eqb (i % n) r)) [
  | inl own ↦ ap (λ b. cond b None None) (sym own)
  | inr other ↦ ap (λ b. cond b None None) (sym other)
]
value_dealt n r i j (t ∷ ts) =
    let own : List Triple = dealt (row_of n) r ts in
    let rest : value_at own i j ≡ cond (eqb (i % n) r) (value_at ts i j) None = value_dealt n r i j ts in
    elim (cases_Bool (is_at i j t)) [
      | inl here ↦
          let row : row_of n t ≡ i % n = ap (λ k. k % n) (at_parts i j t here).0 in
          let there : value_at (t ∷ ts) i j ≡ Some t.v = ap (λ b. cond b (Some t.v) (value_at ts i j)) here in
          let same : value_at (dealt (row_of n) r (t ∷ ts)) i j ≡ value_at (cond (eqb (i % n) r) (t ∷ own) own) i j = ap (λ k. value_at (cond (eqb k r) (t ∷ own) own) i j) row in
          elim (cases_Bool (eqb (i % n) r)) [
            | inl mine ↦
                same ∙ ap (λ b. value_at (cond b (t ∷ own) own) i j) mine ∙ ap (λ b. cond b (Some t.v) (value_at own i j)) here
                ∙ sym (ap (λ b. cond b (value_at (t ∷ ts) i j) None) mine ∙ there)
            | inr other ↦
                same ∙ ap (λ b. value_at (cond b (t ∷ own) own) i j) other ∙ rest
                ∙ ap (λ b. cond b (value_at ts i j) None) other ∙ sym (ap (λ b. cond b (value_at (t ∷ ts) i j) None) other)
          ]
      | inr away ↦
          let skip : value_at (t ∷ ts) i j ≡ value_at ts i j = ap (λ b. cond b (Some t.v) (value_at ts i j)) away in
          let one : value_at (t ∷ own) i j ≡ value_at own i j = ap (λ b. cond b (Some t.v) (value_at own i j)) away in
          (elim (cases_Bool (eqb (row_of n t) r)) [
            | inl mine ↦ ap (λ b. value_at (cond b (t ∷ own) own) i j) mine ∙ one
            | inr other ↦ ap (λ b. value_at (cond b (t ∷ own) own) i j) other
          ])
          ∙ rest ∙ ap (λ o. cond (eqb (i % n) r) o None) (sym skip)
    ]

pub gathered_dealt : (n r : ℕ) (ts : List Triple) → AllPairs Differ ts → gathered_cells (dealt (row_of n) r ts) ≡ dealt (row_of n) r (gathered_cells ts)
gathered_dealt n r ts h =
    let mine : List Triple = dealt (row_of n) r ts in
    same_cells (gathered_cells mine) (dealt (row_of n) r (gathered_cells ts)) (gathered_ordered mine)
    (pairs_filter (λ s t. is_before s t ≡ true) (λ t. eqb (row_of n t) r) (gathered_cells ts) (gathered_ordered ts))
    (λ i j.
    value_gathered mine i j (pairs_filter Differ (λ t. eqb (row_of n t) r) ts h)
    ∙ value_dealt n r i j ts
    ∙ ap (λ o. cond (eqb (i % n) r) o None) (sym (value_gathered ts i j h))
    ∙ sym (value_dealt n r i j (gathered_cells ts)))

-- and the parts of all ranks together are the whole
pub parts_gathered : (n : ℕ) (cells : List Triple) → InOrder cells → All (λ t. row_of n t < n) cells
    → gathered_cells (flat_map (λ r. dealt (row_of n) r cells) (range_with_len 0 n)) ≡ cells
parts_gathered n cells h low =
    gathered_permutes cells (flat_map (λ r. dealt (row_of n) r cells) (range_with_len 0 n)) (hands_together n (row_of n) cells low) ∙ gathered_itself cells h

-- ---- Deals of lists that are made of others

-- what an owner has of a list's images are the images of what it has by them
pub dealt_map : {X Y : Type 0} (owner : Y → ℕ) (r : ℕ) (f : X → Y) (xs : List X) → dealt owner r (map f xs) ≡ map f (dealt (λ x. owner (f x)) r xs)
dealt_map owner r f [] = refl
dealt_map {X} owner r f (x ∷ xs) =
    let own : List X = dealt (λ x. owner (f x)) r xs in
    ap (λ ys. cond (eqb (owner (f x)) r) (f x ∷ ys) ys) (dealt_map owner r f xs)
    ∙ (elim (cases_Bool (eqb (owner (f x)) r)) [
      | inl mine ↦ ap (λ b. cond b (f x ∷ map f own) (map f own)) mine ∙ ap (λ b. map f (cond b (x ∷ own) own)) (sym mine)
      | inr other ↦ ap (λ b. cond b (f x ∷ map f own) (map f own)) other ∙ ap (λ b. map f (cond b (x ∷ own) own)) (sym other)
    ])

-- what a rank took in of what was sent to it, where each item is kept as the image of its element
pub landed : {X : Type 0} (from : X → ℕ) (item : X → Item) (image : X → Triple) (kept : Item → Triple) (n r : ℕ) (xs : List X)
    → All (λ x. kept (item x) ≡ image x) xs
    → map (λ e. kept e.1) (came_to from (λ x. row_of n (image x)) item r xs) ≡ dealt (row_of n) r (map image xs)
landed {X} from item image kept n r xs same =
    let own : List X = dealt (λ x. row_of n (image x)) r xs in
    map-map (λ (e : ℕ × Item). kept e.1) (λ x. (from x, item x)) own
    ∙ same_map (λ x. kept (item x)) image own (All-filter (λ x. eqb (row_of n (image x)) r) (λ x. kept (item x) ≡ image x) xs same)
    ∙ sym (dealt_map (row_of n) r image xs)

-- the parts of one rank more
pub parts_more : (n r : ℕ) (cells old new part : List Triple) → old ≡ gathered_cells (flat_map (λ r. dealt (row_of n) r cells) (range_with_len 0 r))
    → part ≡ dealt (row_of n) r cells → new ≡ raised_all old part → new ≡ gathered_cells (flat_map (λ r. dealt (row_of n) r cells) (range_with_len 0 (r + 1)))
parts_more n r cells old new part so_far is one =
    let parts : List ℕ → List Triple = flat_map (λ r. dealt (row_of n) r cells) in
    let more : parts (range_with_len 0 (r + 1)) ≡ parts (range_with_len 0 r) ++ dealt (row_of n) r cells =
    ap parts (range_more r)
    ∙ flat_map-append (λ r. dealt (row_of n) r cells) (range_with_len 0 r) (r ∷ [])
    ∙ ap (λ ys. parts (range_with_len 0 r) ++ ys) (append-nil (dealt (row_of n) r cells)) in
    one ∙ ap (λ os. raised_all os part) so_far ∙ ap (raised_all (gathered_cells (parts (range_with_len 0 r)))) is
    ∙ sym (ap gathered_cells more ∙ fold-append (λ cells t. with_value_raised t cells) [] (parts (range_with_len 0 r)) (dealt (row_of n) r cells))
