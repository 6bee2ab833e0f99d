-- The runs of topo: how its programs begin, and what it is to have ended.
use Rattle.std.specs.Prelude.{ℕ, ◌≡◌, ◌≤◌, List, [], ◌∷◌, map, replicate}
use Rattle.std.specs.List.{range_with_len, flat_map}
use Rattle.bale_items.specs.declared.Item.{Item}
use Rattle.mtx_text.specs.Sparse.{Sparse, IsSparse}
use Rattle.round_program.specs.Canonical.{HaveEnded}
use Rattle.sparse_rows.specs.Owners.{Numbered, own_entries, row_owner, column_owner, places_for}
use Rattle.app_topo.specs.Topos.{TopoState, topo_rules}

-- An entry in transit to the owner of its row, and to the owner of its column.
abbrev pub for_row : Numbered → Item
for_row e = record { a = e.1.i; b = e.1.j; c = 0 }

abbrev pub for_column : Numbered → Item
for_column e = record { a = e.1.j; b = e.1.i; c = 1 }

abbrev pub first_sent : ℕ → Numbered → List (ℕ × Item)
first_sent ranks e = (row_owner ranks e, for_row e) ∷ (column_owner ranks e, for_column e) ∷ []

-- A rank as topo begins: its entries in transit, and 0 for each row and column that it owns.
abbrev pub topo_begins : ℕ → Sparse → ℕ → TopoState
topo_begins ranks m rank =
    record {
      rank = rank;
      ranks = ranks;
      round = 0;
      size = m.rows;
      numbers = replicate (places_for ranks m.rows) 0;
      sums = replicate (places_for ranks m.rows) 0;
      columns = [];
      counts = replicate (places_for ranks m.rows) 0;
      claimed = [];
      fresh = 0;
      came = [];
      outgoing = flat_map (first_sent ranks) (own_entries ranks rank m.entries);
    }

-- All ranks as topo begins.
abbrev pub topo_starts : ℕ → Sparse → List TopoState
topo_starts ranks m = map (topo_begins ranks m) (range_with_len 0 ranks)

-- Programs that have run topo on a square matrix to its end.
pub record TopoEnded (m : Sparse) (programs : List TopoState) : Type 0 where
  pub ranks : ℕ
  pub some : 1 ≤ ranks
  pub square : m.rows ≡ m.cols
  pub matrix : IsSparse m
  pub ended : HaveEnded topo_rules (topo_starts ranks m) programs
