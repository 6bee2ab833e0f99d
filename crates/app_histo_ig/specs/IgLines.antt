-- The answer of ig: for each entry, the sum of its column.
use Rattle.std.specs.Prelude.{ℕ, ℤ, pos, ◌+ℤ◌, List, [], ◌∷◌, ◌++◌, ◌+◌, ◌==◌, map, decimal}
use Rattle.std.specs.List.{filter, flat_map, fold}
use Rattle.std.specs.Fmt.{signed_decimal}
use Rattle.bale_items.specs.declared.triple.Triple.{Triple}

-- The sum of the values of the entries in a column.
-- column_sum 0 [(0,0,5), (0,2,7), (1,0,-4)] = 1
abbrev pub column_sum : ℕ → List Triple → ℤ
column_sum j entries = fold ◌+ℤ◌ (pos 0) (map (λ t. t.v) (filter (λ t. t.j == j) entries))

-- The line of an entry: its row and its column, from 1, and a sum, with one blank between.
-- ig_line 0 2 (-7) = "1 3 -7\n"
abbrev pub ig_line : ℕ → ℕ → ℤ → List ℕ
ig_line i j sum = decimal (i + 1) ++ 32 ∷ [] ++ decimal (j + 1) ++ 32 ∷ [] ++ signed_decimal sum ++ 10 ∷ []

-- The lines of all entries, in the matrix's order: each with the sum of its column.
-- ig_lines [(0,2,-7), (1,0,4)] = "1 3 -7\n2 1 4\n"
abbrev pub ig_lines : List Triple → List ℕ
ig_lines entries = flat_map (λ t. ig_line t.i t.j (column_sum t.j entries)) entries
