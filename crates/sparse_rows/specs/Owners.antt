-- The owners of entries, rows and columns, and what each rank owns.
use Rattle.std.specs.Prelude.{ℕ, ◌+◌, ◌%◌, ◌/◌, List}
use Rattle.std.specs.List.{enumerate_from}
use Rattle.bale_items.specs.declared.triple.Triple.{Triple}
use Rattle.sparse_rows.specs.Deals.{dealt}

-- An entry with its number in the matrix.
abbrev pub Numbered : Type 0
Numbered = ℕ × Triple

-- The entries of a matrix, each with its number from 0.
abbrev pub with_numbers : List Triple → List Numbered
with_numbers entries = enumerate_from 0 entries

-- Entry number e belongs to rank e mod ranks.
abbrev pub entry_owner : ℕ → Numbered → ℕ
entry_owner ranks e = e.0 % ranks

-- Row i belongs to rank i mod ranks: the owner of the row in which an entry stands.
abbrev pub row_owner : ℕ → Numbered → ℕ
row_owner ranks e = e.1.i % ranks

-- Column j belongs to rank j mod ranks: the owner of the column in which an entry stands.
abbrev pub column_owner : ℕ → Numbered → ℕ
column_owner ranks e = e.1.j % ranks

-- The entries of a rank, in order.
-- own_entries ranks rank entries = those with entry_owner = rank
-- Of 4 entries on 2 ranks, rank 1 has entries 1 and 3.
abbrev pub own_entries : ℕ → ℕ → List Triple → List Numbered
own_entries ranks rank entries = dealt (entry_owner ranks) rank (with_numbers entries)

-- How many places a rank keeps for its rows or columns: number x is at x div ranks.
-- 7 columns on 2 ranks: 4 places on each.
abbrev pub places_for : ℕ → ℕ → ℕ
places_for ranks count = count / ranks + 1
