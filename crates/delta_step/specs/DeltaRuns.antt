-- The runs of delta-stepping: how its programs begin, and what it is to have ended.
use Rattle.std.specs.Prelude.{ℕ, ◌<◌, ◌≤◌, List, [], map}
use Rattle.std.specs.List.{range_with_len}
use Rattle.mtx_text.specs.Sparse.{Sparse}
use Rattle.round_program.specs.Canonical.{HaveEnded}
use Rattle.sparse_rows.specs.Owners.{own_entries, row_owner}
use Rattle.app_sssp.specs.SsspRuns.{IsGraph, edge_item, vertices_begin}
use Rattle.delta_step.specs.declared.phase.Phase.TheVariants.{First}
use Rattle.delta_step.specs.Deltas.{DeltaState, delta_rules}

-- A rank as delta-stepping begins: its entries in transit, no edges, and the source pending.
abbrev pub delta_begins : ℕ → Sparse → ℕ → ℕ → ℕ → DeltaState
delta_begins ranks m source width rank =
    record {
      rank = rank;
      ranks = ranks;
      round = 0;
      rows = m.rows;
      width = width;
      phase = First;
      arriving = [];
      light = [];
      heavy = [];
      vertices = vertices_begin ranks m.rows source rank;
      bucket = 0;
      settled = [];
      outgoing = map (λ e. (row_owner ranks e, edge_item e)) (own_entries ranks rank m.entries);
    }

-- All ranks as delta-stepping begins.
abbrev pub delta_starts : ℕ → Sparse → ℕ → ℕ → List DeltaState
delta_starts ranks m source width = map (delta_begins ranks m source width) (range_with_len 0 ranks)

-- Programs that have run delta-stepping on a matrix from a source to its end.
pub record DeltaEnded (m : Sparse) (source : ℕ) (programs : List DeltaState) : Type 0 where
  pub ranks : ℕ
  pub some : 1 ≤ ranks
  pub few : ranks ≤ 64
  pub width : ℕ
  pub positive : 1 ≤ width
  pub narrow : width ≤ 1_000_000_000_000
  pub graph : IsGraph m
  pub source_in : source < m.rows
  pub ended : HaveEnded delta_rules (delta_starts ranks m source width) programs
