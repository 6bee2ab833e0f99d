-- The answer of histo: for each column, how many entries it has.
use Rattle.std.specs.Prelude.{ℕ, zero, suc, List, [], ◌∷◌, ◌++◌, ◌+◌, ◌==◌, count_by, decimal}
use Rattle.bale_items.specs.declared.triple.Triple.{Triple}

-- How many entries are in a column.
-- in_column j entries = the number of entries whose column is j
-- in_column 2 [(0,0), (0,2), (1,2), (2,2)] = 3
abbrev pub in_column : ℕ → List Triple → ℕ
in_column j entries = count_by (λ e. e.j == j) entries

-- The line of a column: its number from 1, one blank, the number of its entries.
-- histo_line 2 3 = "3 3\n"
abbrev pub histo_line : ℕ → ℕ → List ℕ
histo_line j n = decimal (j + 1) ++ 32 ∷ [] ++ decimal n ++ 10 ∷ []

-- The lines of the columns below a number, in order.
-- histo_lines entries cols = the line of column 0, .., the line of column cols - 1
-- histo_lines [(0,0), (0,2), (1,2), (2,2)] 3 = "1 1\n2 0\n3 3\n"
abbrev pub histo_lines : List Triple → ℕ → List ℕ
histo_lines entries zero = []
histo_lines entries (suc j) = histo_lines entries j ++ histo_line j (in_column j entries)
