-- The runs of sssp: how its programs begin, and what it is to have ended.
use Rattle.std.specs.Prelude.{ℕ, ◌<◌, ◌≤◌, ◌≡◌, true, ◌==◌, ◌%◌, ◌/◌, List, [], map, replicate, if◌then◌else◌}
use Rattle.std.specs.List.{range_with_len}
use Rattle.bale_items.specs.declared.Item.{Item}
use Rattle.bale_items.specs.Bits.{twos_complement}
use Rattle.mtx_text.specs.Sparse.{Sparse, IsSparse}
use Rattle.round_program.specs.Canonical.{HaveEnded}
use Rattle.sparse_rows.specs.Owners.{Numbered, own_entries, places_for, row_owner}
use Rattle.least_walks.specs.declared.vertices.Vertex.{Vertex}
use Rattle.least_walks.specs.Vertices.{unreached_vertex, improved_at}
use Rattle.least_walks.specs.Walks.{no_negative}
use Rattle.app_sssp.specs.Sssps.{SsspState, sssp_rules}

-- A matrix whose entries are edges: it is square, and no value is negative.
pub record IsGraph (m : Sparse) : Type 0 where
  pub matrix : IsSparse m
  pub square : m.cols ≡ m.rows
  pub weights : no_negative m.entries ≡ true

-- An entry in transit to the owner of its row.
abbrev pub edge_item : Numbered → Item
edge_item e = record { a = e.1.i; b = e.1.j; c = twos_complement e.1.v }

-- The vertices of a rank at the start: the source, which the empty walk leads to, is improved.
abbrev pub vertices_begin : ℕ → ℕ → ℕ → ℕ → List Vertex
vertices_begin ranks rows source rank =
    if source % ranks == rank then improved_at (source / ranks) 0 (replicate (places_for ranks rows) unreached_vertex)
    else replicate (places_for ranks rows) unreached_vertex

-- A rank as sssp begins: its entries in transit, and no edges.
abbrev pub sssp_begins : ℕ → Sparse → ℕ → ℕ → SsspState
sssp_begins ranks m source rank =
    record {
      rank = rank;
      ranks = ranks;
      round = 0;
      rows = m.rows;
      arriving = [];
      table = [];
      vertices = vertices_begin ranks m.rows source rank;
      outgoing = map (λ e. (row_owner ranks e, edge_item e)) (own_entries ranks rank m.entries);
    }

-- All ranks as sssp begins.
abbrev pub sssp_starts : ℕ → Sparse → ℕ → List SsspState
sssp_starts ranks m source = map (sssp_begins ranks m source) (range_with_len 0 ranks)

-- Programs that have run sssp on a matrix from a source to its end.
pub record SsspEnded (m : Sparse) (source : ℕ) (programs : List SsspState) : Type 0 where
  pub ranks : ℕ
  pub some : 1 ≤ ranks
  pub graph : IsGraph m
  pub source_in : source < m.rows
  pub ended : HaveEnded sssp_rules (sssp_starts ranks m source) programs
