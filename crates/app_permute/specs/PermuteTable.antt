-- The rounds of permute.
use Rattle.std.specs.Prelude.{◌≤◌, ℕ, ◌%◌, List, map}
use Rattle.bale_items.specs.declared.Item.{Item}
use Rattle.bale_items.specs.declared.triple.Triple.{Triple}
use Rattle.bale_items.specs.Bits.{twos_complement}
use Rattle.mtx_text.specs.Sparse.{Sparse, IsSparse}
use Rattle.mtx_text.specs.Cells.{gathered_cells}
use Rattle.mtx_text.specs.Permutations.{Permutes}
use Rattle.round_program.specs.Canonical.{HasRounds}
use Rattle.sparse_rows.specs.Deals.{dealt}
use Rattle.sparse_rows.specs.Owners.{own_entries}
use Rattle.app_permute.specs.Reorderings.{number_among}
use Rattle.app_permute.specs.Permutes.{permute_rules}
use Rattle.app_permute.specs.PermuteRuns.{permute_starts}
use Rattle.sparse_rows.specs.Emits.{item, Emit}

-- Round 0: each own entry, to the owner of its row.
-- for each own entry (i,j,v) in order: to i mod ranks, (i, j, bits of v)
-- of 3 rows and columns with (0,1,9), (1,2,4) on 2 ranks: rank 0 emits (0,1,9) to rank 0, rank 1
-- emits (1,2,4) to rank 1
abbrev pub permute_to_rows : ℕ → Sparse → ℕ → List (ℕ × Item)
permute_to_rows ranks m r = map (λ e. (e.1.i % ranks, item e.1.i e.1.j (twos_complement e.1.v))) (own_entries ranks r m.entries)

-- Round 1: each entry of an own row, with the row's new number, to the owner of its column.
-- for each (i,j,v) in an own row i, by row and then column: to j mod ranks, (p(i), j, bits of v)
-- of the same with p = 1, 2, 0: rank 0 emits (1,1,9) to rank 1, rank 1 emits (2,2,4) to rank 0
abbrev pub to_columns : ℕ → Sparse → List ℕ → ℕ → List (ℕ × Item)
to_columns ranks m p r =
    map (λ t. (t.j % ranks, item (number_among p t.i) t.j (twos_complement t.v)))
    (dealt (λ t. t.i % ranks) r (gathered_cells m.entries))

-- The entries as (column, new row), by column and then new row.
-- of the same: (1,1,9), (2,2,4)
abbrev pub columns_by_new_row : List ℕ → Sparse → List Triple
columns_by_new_row p m = gathered_cells (map (λ t. record { i = t.j; j = number_among p t.i; v = t.v }) m.entries)

-- Round 2: each entry of an own column, with both new numbers, to the owner of its new row.
-- for each (i,j,v) in an own column j, by column and then new row: to p(i) mod ranks, (p(i), q(j),
-- bits of v)
-- of the same with q = 2, 0, 1: rank 0 emits (2,1,4) to rank 0, rank 1 emits (1,0,9) to rank 1
abbrev pub to_new_rows : ℕ → Sparse → List ℕ → List ℕ → ℕ → List (ℕ × Item)
to_new_rows ranks m p q r =
    map (λ t. (t.j % ranks, item t.j (number_among q t.i) (twos_complement t.v)))
    (dealt (λ t. t.i % ranks) r (columns_by_new_row p m))

-- permute has three rounds: to the owners of rows, of columns and of new rows.
pub record HasPermuteRounds (ranks : ℕ) (m : Sparse) (p q : List ℕ) : Type 0 where
  pub rounds : HasRounds permute_rules (permute_starts ranks m p q) 3
  pub rows_sent : Emit permute_rules (permute_starts ranks m p q) 0 ranks (permute_to_rows ranks m)
  pub columns_sent : Emit permute_rules (permute_starts ranks m p q) 1 ranks (to_columns ranks m p)
  pub new_rows_sent : Emit permute_rules (permute_starts ranks m p q) 2 ranks (to_new_rows ranks m p q)

abbrev pub PermuteRounds : Type 0
PermuteRounds = (ranks : ℕ) (m : Sparse) (p q : List ℕ) → 1 ≤ ranks → IsSparse m → Permutes m.rows p → Permutes m.cols q
    → HasPermuteRounds ranks m p q
