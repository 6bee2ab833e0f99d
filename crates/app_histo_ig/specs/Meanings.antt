-- What the answers of histo and ig mean.
use Rattle.std.specs.Prelude.{◌≡◌, ℕ, zero, suc, ℤ, pos, ◌+ℤ◌, List, Option, Some, None, is_some, if◌then◌else◌}
use Rattle.std.specs.List.{flat_map, range_with_len}
use Rattle.list_laws.specs.Sums.{total}
use Rattle.mtx_text.specs.Sparse.{Sparse}
use Rattle.mtx_text.specs.Maps.{at}
use Rattle.app_histo_ig.specs.HistoLines.{histo_line}
use Rattle.app_histo_ig.specs.IgLines.{ig_line}

-- How many rows of a matrix have an entry in a column.
-- entries_in m j = the number of rows i with a value A(i,j)
-- of (0,0), (0,2), (1,2), (2,2): 3 in column 2
abbrev pub entries_in_column : Sparse → ℕ → ℕ
entries_in_column m j = total m.rows (λ i. if is_some (at m i j) then 1 else 0)

-- A value, and 0 if there is none.
abbrev pub or_zero : Option ℤ → ℤ
or_zero None = pos 0
or_zero (Some v) = v

-- The sum of numbers.
-- sum_upto n f = f 0 + .. + f (n - 1)
abbrev pub sum_upto : ℕ → (ℕ → ℤ) → ℤ
sum_upto zero f = pos 0
sum_upto (suc n) f = sum_upto n f +ℤ f n

-- The sum of the values of a column, row by row.
-- sum_in m j = the sum of the A(i,j) that are there
-- of (0,0,5), (0,2,7), (1,0,-4): 1 in column 0
abbrev pub sum_in : Sparse → ℕ → ℤ
sum_in m j = sum_upto m.rows (λ i. or_zero (at m i j))

-- The bytes are a line for each column, with its number of entries.
-- of (0,0), (0,2), (1,2), (2,2) and 3 columns: "1 1/2 0/3 3/", with / for LF
abbrev pub HistoMeans : Sparse → List ℕ → Type 0
HistoMeans m bytes = bytes ≡ flat_map (λ j. histo_line j (entries_in_column m j)) (range_with_len 0 m.cols)

-- The bytes are a line for each entry, in the order of the matrix, with the sum of its column.
-- of (0,2,-7), (1,0,4): "1 3 -7/2 1 4/", with / for LF
abbrev pub IgMeans : Sparse → List ℕ → Type 0
IgMeans m bytes = bytes ≡ flat_map (λ t. ig_line t.i t.j (sum_in m t.j)) m.entries
