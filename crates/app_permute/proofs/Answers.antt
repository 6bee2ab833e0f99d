-- The matrices of the answers, place by place.
use Rattle.std.proofs.Common.{ℕ, ◌<◌, ◌≡◌, ◌&&◌, Bool, true, false, cond, eqb, List, [], ◌∷◌, Some, map, get_or, inl, inr, refl, sym, ap, ap₂, ◌∙◌, subst}
use Rattle.std.specs.List.{All, AllPairs}
use Rattle.std.proofs.lemmas.Bool.{cases_eq, eq-eqb, ne_eqb}
use Rattle.std.proofs.lemmas.List.Elements.{All-head, All-tail, All-map}
use Rattle.bale_items.specs.declared.triple.Triple.{Triple}
use Rattle.mtx_text.specs.Sparse.{Sparse, IsSparse, IsEntry}
use Rattle.mtx_text.specs.Maps.{is_at, value_at}
use Rattle.mtx_text.specs.Cells.{gathered_cells, sparse}
use Rattle.mtx_text.specs.Permutations.{Permutes}
use Rattle.mtx_text.proofs.BandPlaces.{injective}
use Rattle.mtx_text.proofs.Bands.{as_many, all_below}
use Rattle.mtx_text.proofs.Gathered.{gathered_ordered, gathered_all}
use Rattle.mtx_text.proofs.OfCells.{greater_entry}
use Rattle.sparse_rows.proofs.Gathering.{Differ, pairs_map, value_gathered}
use Rattle.app_permute.specs.Reorderings.{over_diagonal, transpose_of, IsTransposed, number_among, with_new_numbers, reordering_of, IsPermuted}

-- ---- transpose

pub turned_entry : (m : Sparse) (t : Triple) → IsEntry m t → IsEntry (sparse m.cols m.rows m.kind []) (over_diagonal t)
turned_entry m t e = record { row = e.col; col = e.row; limit = e.limit; one = e.one }

pub turned_differ : (m : Sparse) → IsSparse m → AllPairs Differ (map over_diagonal m.entries)
turned_differ m is =
    pairs_map (IsEntry m) Differ Differ over_diagonal m.entries (λ s t a b differ same. differ (record { row = same.col; col = same.row })) is.inside is.once

pub turned_inside : (m : Sparse) → IsSparse m → All (λ t. IsEntry (sparse m.cols m.rows m.kind []) t) (gathered_cells (map over_diagonal m.entries))
turned_inside m is =
    let b : Sparse = sparse m.cols m.rows m.kind [] in
    gathered_all (IsEntry b) (greater_entry b) (map over_diagonal m.entries)
    (All-map (IsEntry b) over_diagonal m.entries (λ k d l. turned_entry m (get_or m.entries k d) (is.inside k d l)))

and_turned : (a b : Bool) → (a && b) ≡ (b && a)
and_turned true true = refl
and_turned true false = refl
and_turned false true = refl
and_turned false false = refl

value_turned : (ts : List Triple) (i j : ℕ) → value_at (map over_diagonal ts) j i ≡ value_at ts i j
value_turned [] i j = refl
value_turned (t ∷ ts) i j =
    ap (λ b. cond b (Some t.v) (value_at (map over_diagonal ts) j i)) (and_turned (eqb t.j j) (eqb t.i i))
    ∙ ap (cond (is_at i j t) (Some t.v)) (value_turned ts i j)

pub transposed_is : (m : Sparse) → IsSparse m → IsTransposed m (transpose_of m)
transposed_is m is =
    record {
      rows = refl;
      cols = refl;
      kind = refl;
      values = λ i j. value_gathered (map over_diagonal m.entries) j i (turned_differ m is) ∙ value_turned m.entries i j;
      ordered = gathered_ordered (map over_diagonal m.entries);
    }

-- ---- permute

pub number_low : (n : ℕ) (p : List ℕ) (x : ℕ) → Permutes n p → x < n → number_among p x < n
number_low n p x h low = all_below n p h x 0 (subst (λ k. x < k) (sym (as_many n p h)) low)

pub moved_entry : (m : Sparse) (p q : List ℕ) (t : Triple) → Permutes m.rows p → Permutes m.cols q → IsEntry m t → IsEntry (sparse m.rows m.cols m.kind []) (with_new_numbers p q t)
moved_entry m p q t hp hq e = record { row = number_low m.rows p t.i hp e.row; col = number_low m.cols q t.j hq e.col; limit = e.limit; one = e.one }

pub moved_differ : (m : Sparse) (p q : List ℕ) → Permutes m.rows p → Permutes m.cols q → IsSparse m → AllPairs Differ (map (with_new_numbers p q) m.entries)
moved_differ m p q hp hq is =
    pairs_map (IsEntry m) Differ Differ (with_new_numbers p q) m.entries (λ s t a b differ same.
    differ (record { row = injective m.rows p s.i t.i hp a.row b.row same.row; col = injective m.cols q s.j t.j hq a.col b.col same.col })) is.inside is.once

pub moved_inside : (m : Sparse) (p q : List ℕ) → Permutes m.rows p → Permutes m.cols q → IsSparse m → All (λ t. IsEntry (sparse m.rows m.cols m.kind []) t) (gathered_cells (map (with_new_numbers p q) m.entries))
moved_inside m p q hp hq is =
    let b : Sparse = sparse m.rows m.cols m.kind [] in
    gathered_all (IsEntry b) (greater_entry b) (map (with_new_numbers p q) m.entries)
    (All-map (IsEntry b) (with_new_numbers p q) m.entries (λ k d l. moved_entry m p q (get_or m.entries k d) hp hq (is.inside k d l)))

same_number : (n : ℕ) (p : List ℕ) (x y : ℕ) → Permutes n p → x < n → y < n → eqb (number_among p x) (number_among p y) ≡ eqb x y
same_number n p x y h a b =
    elim (cases_eq x y) [
      | inl same ↦ eq-eqb (number_among p x) (number_among p y) (ap (number_among p) same) ∙ sym (eq-eqb x y same)
      | inr other ↦ ne_eqb (number_among p x) (number_among p y) (λ e. other (injective n p x y h a b e)) ∙ sym (ne_eqb x y other)
    ]

value_moved : (m : Sparse) (p q : List ℕ) (ts : List Triple) (i j : ℕ) → Permutes m.rows p → Permutes m.cols q → All (IsEntry m) ts → i < m.rows → j < m.cols
    → value_at (map (with_new_numbers p q) ts) (number_among p i) (number_among q j) ≡ value_at ts i j
value_moved m p q [] i j hp hq all a b = refl
value_moved m p q (t ∷ ts) i j hp hq all a b =
    let here : IsEntry m t = All-head (IsEntry m) t ts all in
    ap₂ (λ x y. cond (x && y) (Some t.v) (value_at (map (with_new_numbers p q) ts) (number_among p i) (number_among q j)))
    (same_number m.rows p t.i i hp here.row a) (same_number m.cols q t.j j hq here.col b)
    ∙ ap (cond (is_at i j t) (Some t.v)) (value_moved m p q ts i j hp hq (All-tail (IsEntry m) t ts all) a b)

pub permuted_is : (m : Sparse) (p q : List ℕ) → Permutes m.rows p → Permutes m.cols q → IsSparse m → IsPermuted p q m (reordering_of p q m)
permuted_is m p q hp hq is =
    record {
      rows = refl;
      cols = refl;
      kind = refl;
      values = λ i j a b. value_gathered (map (with_new_numbers p q) m.entries) (number_among p i) (number_among q j) (moved_differ m p q hp hq is) ∙ value_moved m p q m.entries i j hp hq is.inside a b;
      inside = λ k d l. (let e : IsEntry (sparse m.rows m.cols m.kind []) (get_or (gathered_cells (map (with_new_numbers p q) m.entries)) k d) = moved_inside m p q hp hq is k d l in (e.row, e.col));
      ordered = gathered_ordered (map (with_new_numbers p q) m.entries);
    }
