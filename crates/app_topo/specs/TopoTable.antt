-- The rounds of topo.
use Rattle.std.specs.Prelude.{◌≡◌, ◌≢◌, ◌≤◌, ◌<◌, ◌+◌, ◌*◌, ◌%◌, ℕ, pos, nat_lt, List, [], ◌∷◌, map}
use Rattle.std.specs.List.{filter, flat_map}
use Rattle.bale_items.specs.declared.Item.{Item}
use Rattle.bale_items.specs.declared.triple.Triple.{Triple}
use Rattle.mtx_text.specs.Sparse.{Sparse, IsSparse}
use Rattle.mtx_text.specs.Cells.{gathered_cells}
use Rattle.round_program.specs.Canonical.{HasRounds}
use Rattle.sparse_rows.specs.Deals.{dealt}
use Rattle.sparse_rows.specs.Owners.{own_entries}
use Rattle.app_topo.specs.Levels.{Claim, col_claims, level, claims_after}
use Rattle.app_topo.specs.Topos.{topo_rules}
use Rattle.app_topo.specs.TopoRuns.{topo_starts}
use Rattle.sparse_rows.specs.Emits.{item, Emit}

-- Round 0: each own entry, to the owner of its row and then to the owner of its column. An entry is
-- owned by its number in the text, and a row and a column by their index, each modulo `ranks`.
-- for each own entry (i,j,v) in order: to i mod ranks, (i,j,0), then to j mod ranks, (j,i,1)
-- of (0,0), (0,1), (1,1) on 2 ranks: rank 1, whose entry is (0,1), emits (0,1,0) to rank 0 and then
-- (1,0,1) to rank 1
abbrev pub entries_told : ℕ → Sparse → ℕ → List (ℕ × Item)
entries_told ranks m r =
    flat_map (λ e. (e.1.i % ranks, item e.1.i e.1.j 0) ∷ (e.1.j % ranks, item e.1.j e.1.i 1) ∷ [])
    (own_entries ranks r m.entries)

-- The rows of level t, ascending, each with the column that it claims.
-- of (0,0), (0,1), (1,1): row 1 claims column 1 in level 0, row 0 claims column 0 in level 1
abbrev pub level_at : Sparse → ℕ → List Claim
level_at m t = level m.rows m.entries (claims_after m.rows m.entries t)

-- Round 2t + 1: the claims of own rows of level t.
-- for each own row i of level t, ascending, that claims column j: to j mod ranks, (j,i,2)
-- of (0,0), (0,1), (1,1) on 2 ranks: in round 1 rank 1 emits (1,1,2) to rank 1, in round 3 rank 0
-- emits (0,0,2) to rank 0
abbrev pub rows_claim : ℕ → Sparse → ℕ → ℕ → List (ℕ × Item)
rows_claim ranks m t r = map (λ c. (c.1 % ranks, item c.1 c.0 2)) (dealt (λ c. c.0 % ranks) r (level_at m t))

-- The entries as (column, row), by column and then row: `i` is the column here, and `j` the row.
-- of (0,0), (0,1), (1,1): (0,0), (1,0), (1,1)
abbrev pub columns_first : Sparse → List Triple
columns_first m = gathered_cells (map (λ t. record { i = t.j; j = t.i; v = pos 0 }) m.entries)

-- Round 2t + 2: the rows of own columns that level t has claimed are told that they have one entry
-- less.
-- for each own column j that a row of level t claims, ascending, and each row i with an entry
-- there, ascending: to i mod ranks, (i,j,3)
-- of (0,0), (0,1), (1,1) on 2 ranks: in round 2 rank 1 emits (0,1,3) to rank 0 and then (1,1,3) to
-- rank 1
abbrev pub columns_fall : ℕ → Sparse → ℕ → ℕ → List (ℕ × Item)
columns_fall ranks m t r =
    map (λ u. (u.j % ranks, item u.j u.i 3))
    (dealt (λ u. u.i % ranks) r (filter (λ u. nat_lt 0 (col_claims u.i (level_at m t))) (columns_first m)))

-- topo has 2l + 2 rounds, if l is the number of levels that aren't empty: in round 0 the entries
-- go to the owners of their rows and columns, and then rows claim and columns fall in turn, until
-- no row claims.
pub record HasTopoRounds (ranks : ℕ) (m : Sparse) : Type 0 where
  pub levels : ℕ
  pub few : levels ≤ m.rows
  pub some : (t : ℕ) → t < levels → level_at m t ≢ []
  pub none : level_at m levels ≡ []
  pub rounds : HasRounds topo_rules (topo_starts ranks m) (2 * levels + 2)
  pub entries_sent : Emit topo_rules (topo_starts ranks m) 0 ranks (entries_told ranks m)
  pub claims_sent : (t : ℕ) → t ≤ levels
      → Emit topo_rules (topo_starts ranks m) (2 * t + 1) ranks (rows_claim ranks m t)
  pub falls_sent : (t : ℕ) → t < levels
      → Emit topo_rules (topo_starts ranks m) (2 * t + 2) ranks (columns_fall ranks m t)

abbrev pub TopoRounds : Type 0
TopoRounds = (ranks : ℕ) (m : Sparse) → 1 ≤ ranks → m.rows ≡ m.cols → IsSparse m → HasTopoRounds ranks m
