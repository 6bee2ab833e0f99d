-- The answers: a matrix turned over its diagonal, and a matrix with its rows and columns in another
-- order.
use Rattle.std.specs.Prelude.{ℕ, ◌<◌, ◌≡◌, List, map, slice_index_or}
use Rattle.std.specs.List.{All}
use Rattle.bale_items.specs.declared.triple.Triple.{Triple}
use Rattle.mtx_text.specs.Sparse.{Sparse}
use Rattle.mtx_text.specs.Maps.{at}
use Rattle.mtx_text.specs.Cells.{InOrder, gathered_cells, sparse}

-- An entry turned over the diagonal.
abbrev pub over_diagonal : Triple → Triple
over_diagonal t = record { i = t.j; j = t.i; v = t.v }

-- The transposed matrix: the entries turned over the diagonal, by row and then column.
-- transposed A = the matrix B with B(j,i) = A(i,j)
-- 2 rows and 3 columns with (0,2,-7), (1,0,4) become 3 rows and 2 columns with (0,1,4), (2,0,-7).
abbrev pub transpose_of : Sparse → Sparse
transpose_of m = sparse m.cols m.rows m.kind (gathered_cells (map over_diagonal m.entries))

-- What a transposed matrix is, place by place: it has A's value at (i,j) at (j,i), and if A has
-- none, none.
pub record IsTransposed (m b : Sparse) : Type 0 where
  pub rows : b.rows ≡ m.cols
  pub cols : b.cols ≡ m.rows
  pub kind : b.kind ≡ m.kind
  pub values : (i j : ℕ) → at b j i ≡ at m i j
  pub ordered : InOrder b.entries

-- The new number of a row or column: the element of the list at its place.
-- in 2, 0, 1 the new number of 0 is 2.
abbrev pub number_among : List ℕ → ℕ → ℕ
number_among p x = slice_index_or p x 0

-- An entry with new numbers for its row and its column.
abbrev pub with_new_numbers : List ℕ → List ℕ → Triple → Triple
with_new_numbers p q t = record { i = number_among p t.i; j = number_among q t.j; v = t.v }

-- The permuted matrix: the entries at their new rows and columns, by row and then column.
-- permuted p q A = the matrix B with B(p(i), q(j)) = A(i,j)
-- 3 rows and columns with (0,1,9), p = 1, 2, 0 and q = 2, 0, 1: 3 rows and columns with (1,0,9)
abbrev pub reordering_of : List ℕ → List ℕ → Sparse → Sparse
reordering_of p q m = sparse m.rows m.cols m.kind (gathered_cells (map (with_new_numbers p q) m.entries))

-- What a permuted matrix is, place by place: it has A's value at (i,j) at (p(i), q(j)), where A has
-- none, none, and no entry outside. Each place inside is (p(i), q(j)) for one (i,j), since p and q
-- are permutations.
pub record IsPermuted (p q : List ℕ) (m b : Sparse) : Type 0 where
  pub rows : b.rows ≡ m.rows
  pub cols : b.cols ≡ m.cols
  pub kind : b.kind ≡ m.kind
  pub values : (i j : ℕ) → i < m.rows → j < m.cols → at b (number_among p i) (number_among q j) ≡ at m i j
  pub inside : All (λ t. (t.i < m.rows) × (t.j < m.cols)) b.entries
  pub ordered : InOrder b.entries
