-- The runs of transpose: how its programs begin, and what it is to have ended.
use Rattle.std.specs.Prelude.{ℕ, ◌≤◌, List, [], map}
use Rattle.std.specs.List.{range_with_len}
use Rattle.mtx_text.specs.Sparse.{Sparse, IsSparse}
use Rattle.round_program.specs.Canonical.{HaveEnded}
use Rattle.sparse_rows.specs.Owners.{own_entries, column_owner}
use Rattle.app_permute.specs.Carried.{cell_item}
use Rattle.app_permute.specs.Reorderings.{over_diagonal}
use Rattle.app_permute.specs.Transposes.{TransposeState, transpose_rules}

-- A rank as transpose begins: its entries, turned, in transit to the owners of their columns.
abbrev pub transpose_begins : ℕ → Sparse → ℕ → TransposeState
transpose_begins ranks m rank =
    record {
      rank = rank;
      ranks = ranks;
      round = 0;
      rows = m.cols;
      cols = m.rows;
      outgoing = map (λ e. (column_owner ranks e, cell_item (over_diagonal e.1))) (own_entries ranks rank m.entries);
      cells = [];
    }

-- All ranks as transpose begins.
-- (0,2,-7), (1,0,4) on 2 ranks: rank 0 sends (2,0,-7) to rank 0, rank 1 sends (0,1,4) to rank 0.
abbrev pub transpose_starts : ℕ → Sparse → List TransposeState
transpose_starts ranks m = map (transpose_begins ranks m) (range_with_len 0 ranks)

-- Programs that have run transpose on a matrix to its end.
pub record TransposeEnded (m : Sparse) (programs : List TransposeState) : Type 0 where
  pub ranks : ℕ
  pub some : 1 ≤ ranks
  pub matrix : IsSparse m
  pub ended : HaveEnded transpose_rules (transpose_starts ranks m) programs
