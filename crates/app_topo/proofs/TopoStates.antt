-- The states of topo's ranks between the rounds, by levels.
use Rattle.std.proofs.Common.{ℕ, zero, suc, ◌+◌, ◌*◌, ◌%◌, ◌++◌, List, [], cond, map, sum_by, count_by}
use Rattle.std.specs.Prelude.{nat_lt, Bool}
use Rattle.std.specs.List.{filter}
use Rattle.bale_items.specs.declared.Item.{Item}
use Rattle.bale_items.specs.declared.triple.Triple.{Triple}
use Rattle.mtx_text.specs.Sparse.{Sparse}
use Rattle.mtx_text.specs.Cells.{gathered_cells}
use Rattle.sparse_rows.specs.Deals.{dealt}
use Rattle.sparse_rows.proofs.Gathering.{row_of}
use Rattle.app_topo.specs.declared.placed.Placed.{Placed}
use Rattle.app_topo.specs.Levels.{Claim, col_claims, is_open, level, claims_after}
use Rattle.app_topo.specs.Topos.{TopoState, spot, to_fall}
use Rattle.app_topo.proofs.TopoTables.{table}

-- the claims of the levels below t, and level t
abbrev pub claims : Sparse → ℕ → List Claim
claims m t = claims_after m.rows m.entries t

abbrev pub next : Sparse → ℕ → List Claim
next m t = level m.rows m.entries (claims m t)

-- the entries by column and row
abbrev pub by_column : Sparse → List Triple
by_column m = gathered_cells (map (λ t. spot t.j t.i) m.entries)

-- the open entries of row i: how many, and their columns together
abbrev pub open_number : Sparse → List Claim → ℕ → ℕ
open_number m cs i = count_by (is_open cs i) m.entries

abbrev pub open_sum : Sparse → List Claim → ℕ → ℕ
open_sum m cs i = sum_by (λ t. cond (is_open cs i t) t.j 0) m.entries

-- a column that level t claims, and the entries that it frees
abbrev pub is_freed : Sparse → ℕ → ℕ → Bool
is_freed m t j = nat_lt 0 (col_claims j (next m t))

abbrev pub freed : Sparse → ℕ → List Triple
freed m t = filter (λ u. is_freed m t u.i) (by_column m)

-- owners
abbrev pub claim_row : ℕ → Claim → ℕ
claim_row ranks c = c.0 % ranks

abbrev pub claim_column : ℕ → Claim → ℕ
claim_column ranks c = c.1 % ranks

abbrev pub claim_item : Claim → Item
claim_item c = record { a = c.1; b = c.0; c = 2 }

abbrev pub fall_item : Triple → Item
fall_item u = record { a = u.j; b = u.i; c = 3 }

-- the own rows that have claimed in the levels below t
abbrev pub placed_upto : ℕ → Sparse → ℕ → ℕ → List Placed
placed_upto ranks m r zero = []
placed_upto ranks m r (suc t) = placed_upto ranks m r t ++ map (λ c. record { level = t; row = c.0; column = c.1 }) (dealt (claim_row ranks) r (next m t))

-- a rank before round 2t + 1: its rows of level t claim
abbrev pub claiming : ℕ → Sparse → ℕ → ℕ → TopoState
claiming ranks m t r =
    record {
      rank = r;
      ranks = ranks;
      round = 2 * t + 1;
      size = m.rows;
      numbers = table ranks r m.rows (open_number m (claims m t));
      sums = table ranks r m.rows (open_sum m (claims m t));
      columns = dealt (row_of ranks) r (by_column m);
      counts = table ranks r m.rows (λ j. col_claims j (claims m t));
      claimed = placed_upto ranks m r t;
      fresh = 0;
      came = [];
      outgoing = map (λ c. (claim_column ranks c, claim_item c)) (dealt (claim_row ranks) r (next m t));
    }

-- a rank before round 2t + 2: its columns that level t claimed free their rows' entries
abbrev pub freeing : ℕ → Sparse → ℕ → ℕ → TopoState
freeing ranks m t r =
    record (claiming ranks m t r) {
      round = 2 * t + 2;
      counts = table ranks r m.rows (λ j. col_claims j (claims m (suc t)));
      claimed = placed_upto ranks m r (suc t);
      outgoing = map (to_fall ranks) (dealt (row_of ranks) r (freed m t));
    }
