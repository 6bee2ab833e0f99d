-- The cells of all ranks together, where each rank has rows of its own.
use Rattle.std.proofs.Common.{ℕ, suc, ◌+◌, ◌-◌, ◌%◌, ◌<◌, ◌≤◌, ◌≡◌, ◌≢◌, false, List, [], ◌∷◌, None, get_or, arith, inl, inr, refl, sym, ap, ap₂, ◌∙◌, subst}
use Rattle.std.specs.List.{All, flat_map}
use Rattle.std.proofs.lemmas.Bool.{cases_eq, false_from_ne_true}
use Rattle.std.proofs.lemmas.List.Elements.{All-head, All-tail, All-nil, All-append}
use Rattle.std.proofs.lemmas.List.Sums.{fold-append}
use Rattle.list_laws.specs.Lists.{EachAt}
use Rattle.bale_items.specs.declared.triple.Triple.{Triple}
use Rattle.mtx_text.specs.declared.kind.Kind.{Kind}
use Rattle.mtx_text.specs.Sparse.{IsEntry}
use Rattle.mtx_text.specs.Maps.{is_at, value_at}
use Rattle.mtx_text.specs.Cells.{InOrder, with_value_raised, raised_all, together, sparse}
use Rattle.mtx_text.proofs.Gathered.{gathered_itself, gathered_all, value_both, most_of, most_nothing}
use Rattle.mtx_text.proofs.OfCells.{greater_entry}
use Rattle.mtx_text.proofs.Raised.{at_parts, value_later}

-- a row of another rank has no values
other_row : (n r : ℕ) (i j : ℕ) (cells : List Triple) → All (λ t. t.i % n ≡ r) cells → i % n ≢ r → value_at cells i j ≡ None
other_row n r i j [] h d = refl
other_row n r i j (c ∷ cells) h d =
    let away : is_at i j c ≡ false = false_from_ne_true (is_at i j c) (λ g.
    let p : (c.i ≡ i) × (c.j ≡ j) = at_parts i j c g in
    d (ap (λ k. k % n) (sym p.0) ∙ All-head (λ t. t.i % n ≡ r) c cells h)) in
    value_later i j c cells away ∙ other_row n r i j cells (All-tail (λ t. t.i % n ≡ r) c cells h) d

-- the value of a map and further maps
value_first_map : (i j : ℕ) (cells : List Triple) (maps : List (List Triple)) → InOrder cells
    → value_at (together (cells ∷ maps)) i j ≡ most_of (value_at cells i j) (value_at (together maps) i j)
value_first_map i j cells maps h =
    ap (λ ts. value_at ts i j) (fold-append (λ cells t. with_value_raised t cells) [] cells (flat_map (λ cells. cells) maps))
    ∙ ap (λ ts. value_at (raised_all ts (flat_map (λ cells. cells) maps)) i j) (gathered_itself cells h)
    ∙ value_both i j cells (flat_map (λ cells. cells) maps) h

tail_own : (n s : ℕ) (c : List Triple) (maps : List (List Triple)) → EachAt (λ k cells. All (λ t. t.i % n ≡ s + k) cells) (c ∷ maps)
    → EachAt (λ k cells. All (λ t. t.i % n ≡ suc s + k) cells) maps
tail_own n s c maps h k d l =
    let e : s + suc k ≡ suc s + k = omega arith in
    subst (λ m. All (λ t. t.i % n ≡ m) (get_or maps k d)) e (h (suc k) d (omega arith))

head_own : (n s : ℕ) (c : List Triple) (maps : List (List Triple)) → EachAt (λ k cells. All (λ t. t.i % n ≡ s + k) cells) (c ∷ maps)
    → All (λ t. t.i % n ≡ s) c
head_own n s c maps h =
    let e : s + 0 ≡ s = omega arith in
    subst (λ m. All (λ t. t.i % n ≡ m) c) e (h 0 c (omega arith))

-- maps of the ranks from s on: a row of an earlier rank has no value, and one of theirs has its
-- rank's
below_all : (n s i j : ℕ) (maps : List (List Triple)) → EachAt (λ k cells. All (λ t. t.i % n ≡ s + k) cells) maps → All (λ cells. InOrder cells) maps
    → i % n < s → value_at (together maps) i j ≡ None
below_all n s i j [] own order l = refl
below_all n s i j (c ∷ maps) own order l =
    value_first_map i j c maps (All-head (λ cells. InOrder cells) c maps order)
    ∙ ap₂ most_of (other_row n s i j c (head_own n s c maps own) (λ e. omega arith))
    (below_all n (suc s) i j maps (tail_own n s c maps own) (All-tail (λ cells. InOrder cells) c maps order) (omega arith))

pub value_of_rank : (n s i j : ℕ) (maps : List (List Triple)) → EachAt (λ k cells. All (λ t. t.i % n ≡ s + k) cells) maps → All (λ cells. InOrder cells) maps
    → s ≤ i % n → value_at (together maps) i j ≡ value_at (get_or maps (i % n - s) []) i j
value_of_rank n s i j [] own order l = refl
value_of_rank n s i j (c ∷ maps) own order l =
    value_first_map i j c maps (All-head (λ cells. InOrder cells) c maps order)
    ∙ elim (cases_eq (i % n) s) [
      | inl e ↦
          let here : i % n - s ≡ 0 = omega arith in
          ap (most_of (value_at c i j)) (below_all n (suc s) i j maps (tail_own n s c maps own) (All-tail (λ cells. InOrder cells) c maps order) (omega arith))
          ∙ ap (λ k. value_at (get_or (c ∷ maps) k []) i j) (sym here)
      | inr d ↦
          let later : i % n - s ≡ suc (i % n - suc s) = omega arith in
          ap₂ most_of (other_row n s i j c (head_own n s c maps own) d)
          (value_of_rank n (suc s) i j maps (tail_own n s c maps own) (All-tail (λ cells. InOrder cells) c maps order) (omega arith))
          ∙ most_nothing (value_at (get_or maps (i % n - suc s) []) i j)
          ∙ ap (λ k. value_at (get_or (c ∷ maps) k []) i j) (sym later)
    ]

pub values_joined : (n i j : ℕ) (maps : List (List Triple)) → EachAt (λ r cells. All (λ t. t.i % n ≡ r) cells) maps → All (λ cells. InOrder cells) maps
    → value_at (together maps) i j ≡ value_at (get_or maps (i % n) []) i j
values_joined n i j maps own order =
    let own_from : EachAt (λ k cells. All (λ t. t.i % n ≡ 0 + k) cells) maps = λ k d l.
    (let e : k ≡ 0 + k = omega arith in subst (λ m. All (λ t. t.i % n ≡ m) (get_or maps k d)) e (own k d l)) in
    let e : i % n - 0 ≡ i % n = omega arith in
    value_of_rank n 0 i j maps own_from order (omega arith) ∙ ap (λ k. value_at (get_or maps k []) i j) e

-- entries of all maps are entries of the whole
pub all_inside : (rows cols : ℕ) (kind : Kind) (maps : List (List Triple)) → All (λ cells. All (λ t. IsEntry (sparse rows cols kind []) t) cells) maps
    → All (λ t. IsEntry (sparse rows cols kind []) t) (together maps)
all_inside rows cols kind maps h =
    gathered_all (λ t. IsEntry (sparse rows cols kind []) t) (λ s t e f a b. greater_entry (sparse rows cols kind []) s t e f a b) (flat_map (λ cells. cells) maps) (flat maps h)
  where
    flat : (maps : List (List Triple)) → All (λ cells. All (λ t. IsEntry (sparse rows cols kind []) t) cells) maps → All (λ t. IsEntry (sparse rows cols kind []) t) (flat_map (λ cells. cells) maps)
    flat [] h = All-nil (λ t. IsEntry (sparse rows cols kind []) t)
    flat (c ∷ maps) h = All-append (λ t. IsEntry (sparse rows cols kind []) t) c (flat_map (λ cells. cells) maps)
        (All-head (λ cells. All (λ t. IsEntry (sparse rows cols kind []) t) cells) c maps h)
        (flat maps (All-tail (λ cells. All (λ t. IsEntry (sparse rows cols kind []) t) cells) c maps h))
