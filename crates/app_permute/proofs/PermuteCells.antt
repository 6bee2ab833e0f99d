-- The cells of a matrix on their way through permute, as one list for all ranks: by row, by column
-- and new row, and by new row and new column.
use Rattle.std.proofs.Common.{ℕ, ◌%◌, ◌<◌, ◌≡◌, eqb, List, [], map, length, get_or, IsPermutation, sym, ap, ◌∙◌}
use Rattle.std.specs.List.{All, AllPairs}
use Rattle.std.proofs.lemmas.Bool.{eqb-true}
use Rattle.std.proofs.lemmas.List.Elements.{All-map, All-filter, filter_passes}
use Rattle.std.proofs.lemmas.List.Sorted.{IsPermutation-map}
use Rattle.std.proofs.lemmas.Simd.{map-map}
use Rattle.bale_items.specs.declared.triple.Triple.{Triple}
use Rattle.mtx_text.specs.Sparse.{Sparse, IsSparse, IsEntry}
use Rattle.mtx_text.specs.Cells.{gathered_cells, sparse}
use Rattle.mtx_text.specs.Permutations.{Permutes}
use Rattle.mtx_text.proofs.BandPlaces.{injective}
use Rattle.mtx_text.proofs.Gathered.{gathered_ordered, gathered_permutes, gathered_all}
use Rattle.mtx_text.proofs.OfCells.{greater_entry}
use Rattle.sparse_rows.specs.Deals.{dealt}
use Rattle.sparse_rows.proofs.EveryEntry.{same_map}
use Rattle.sparse_rows.proofs.Gathering.{row_of, Differ, pairs_map, ordered_differ, gathered_moves}
use Rattle.app_permute.specs.Reorderings.{number_among, with_new_numbers}
use Rattle.app_permute.specs.Permutes.{new_number}
use Rattle.app_permute.specs.PermuteRuns.{own_numbers}
use Rattle.app_permute.proofs.Answers.{number_low}
use Rattle.app_permute.proofs.PermuteNumbers.{number_is}

-- a cell (i,j) with a new number for i, by its other side first
abbrev pub crossed : List ℕ → Triple → Triple
crossed p t = record { i = t.j; j = number_among p t.i; v = t.v }

abbrev pub by_row : Sparse → List Triple
by_row m = gathered_cells m.entries

abbrev pub by_column : List ℕ → Sparse → List Triple
by_column p m = gathered_cells (map (crossed p) (by_row m))

abbrev pub by_new_row : List ℕ → List ℕ → Sparse → List Triple
by_new_row p q m = gathered_cells (map (crossed q) (by_column p m))

-- ---- Inside, and at places of their own

crossed_entry : (m : Sparse) (p : List ℕ) (t : Triple) → Permutes m.rows p → IsEntry m t → IsEntry (sparse m.cols m.rows m.kind []) (crossed p t)
crossed_entry m p t h e = record { row = e.col; col = number_low m.rows p t.i h e.row; limit = e.limit; one = e.one }

crossed_inside : (m : Sparse) (p : List ℕ) (cells : List Triple) → Permutes m.rows p → All (IsEntry m) cells → All (IsEntry (sparse m.cols m.rows m.kind [])) (gathered_cells (map (crossed p) cells))
crossed_inside m p cells h all =
    let b : Sparse = sparse m.cols m.rows m.kind [] in
    gathered_all (IsEntry b) (greater_entry b) (map (crossed p) cells) (All-map (IsEntry b) (crossed p) cells (λ k d l. crossed_entry m p (get_or cells k d) h (all k d l)))

pub crossed_differ : (m : Sparse) (p : List ℕ) (cells : List Triple) → Permutes m.rows p → All (IsEntry m) cells → AllPairs Differ cells → AllPairs Differ (map (crossed p) cells)
crossed_differ m p cells h all differ =
    pairs_map (IsEntry m) Differ Differ (crossed p) cells (λ s t a b apart same. apart (record { row = injective m.rows p s.i t.i h a.row b.row same.col; col = same.row })) all differ

pub rows_inside : (m : Sparse) → IsSparse m → All (IsEntry m) (by_row m)
rows_inside m is = gathered_all (IsEntry m) (greater_entry m) m.entries is.inside

pub columns_inside : (m : Sparse) (p : List ℕ) → IsSparse m → Permutes m.rows p → All (IsEntry (sparse m.cols m.rows m.kind [])) (by_column p m)
columns_inside m p is h = crossed_inside m p (by_row m) h (rows_inside m is)

pub to_columns_differ : (m : Sparse) (p : List ℕ) → IsSparse m → Permutes m.rows p → AllPairs Differ (map (crossed p) (by_row m))
to_columns_differ m p is h = crossed_differ m p (by_row m) h (rows_inside m is) (ordered_differ (by_row m) (gathered_ordered m.entries))

pub to_rows_differ : (m : Sparse) (p q : List ℕ) → IsSparse m → Permutes m.rows p → Permutes m.cols q → AllPairs Differ (map (crossed q) (by_column p m))
to_rows_differ m p q is hp hq =
    crossed_differ (sparse m.cols m.rows m.kind []) q (by_column p m) hq (columns_inside m p is hp) (ordered_differ (by_column p m) (gathered_ordered (map (crossed p) (by_row m))))

-- ---- In the end they are the permuted matrix's

pub arrived : (m : Sparse) (p q : List ℕ) → IsSparse m → Permutes m.rows p → by_new_row p q m ≡ gathered_cells (map (with_new_numbers p q) m.entries)
arrived m p q is hp =
    let one : IsPermutation m.entries (by_row m) = gathered_moves m.entries is.once in
    let two : IsPermutation (map (crossed p) (by_row m)) (by_column p m) = gathered_moves (map (crossed p) (by_row m)) (to_columns_differ m p is hp) in
    gathered_permutes (map (crossed q) (map (crossed p) (by_row m))) (map (crossed q) (by_column p m)) (IsPermutation-map (crossed q) _ _ two)
    ∙ gathered_permutes (map (crossed q) (map (crossed p) m.entries)) (map (crossed q) (map (crossed p) (by_row m))) (IsPermutation-map (crossed q) _ _ (IsPermutation-map (crossed p) _ _ one))
    ∙ ap gathered_cells (map-map (crossed q) (crossed p) m.entries)

-- ---- What the owner of a row makes of its cells, by the numbers that it knows

pub numbered_as : {Y : Type 0} (build : ℕ → Triple → Y) (ranks r : ℕ) (p : List ℕ) (cells : List Triple) → 0 < ranks → All (λ t. t.i < length p) cells
    → map (λ t. build (new_number ranks (own_numbers ranks r p) t.i) t) (dealt (row_of ranks) r cells) ≡ map (λ t. build (number_among p t.i) t) (dealt (row_of ranks) r cells)
numbered_as build ranks r p cells some inside =
    same_map (λ t. build (new_number ranks (own_numbers ranks r p) t.i) t) (λ t. build (number_among p t.i) t) (dealt (row_of ranks) r cells) (λ k d l.
    let t : Triple = get_or (dealt (row_of ranks) r cells) k d in
    let own : t.i % ranks ≡ r = eqb-true (t.i % ranks) r (filter_passes (λ u. eqb (row_of ranks u) r) cells k d l) in
    let low : t.i < length p = All-filter (λ u. eqb (row_of ranks u) r) (λ u. u.i < length p) cells inside k d l in
    ap (λ n. build n t) (ap (λ f. new_number ranks (own_numbers ranks f p) t.i) (sym own) ∙ number_is ranks t.i p some low))
