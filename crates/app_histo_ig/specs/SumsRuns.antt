-- The runs of the sums of columns: how their programs begin, and what it is to have ended.
use Rattle.std.specs.Prelude.{ℕ, ◌≤◌, List, map, replicate}
use Rattle.std.specs.List.{range_with_len}
use Rattle.mtx_text.specs.Sparse.{Sparse, IsSparse}
use Rattle.round_program.specs.Canonical.{HaveEnded}
use Rattle.sparse_rows.specs.Owners.{own_entries, column_owner, places_for}
use Rattle.app_histo_ig.specs.Igs.{value_item}
use Rattle.app_histo_ig.specs.Sums.{SumsState, sums_rules}

-- A rank as it begins: the values of its entries in transit, and 0 for each column that it owns.
abbrev pub sums_begins : ℕ → Sparse → ℕ → SumsState
sums_begins ranks m rank =
    record {
      rank = rank;
      ranks = ranks;
      round = 0;
      cols = m.cols;
      values = map (λ e. (column_owner ranks e, value_item e)) (own_entries ranks rank m.entries);
      sums = replicate (places_for ranks m.cols) 0;
    }

-- All ranks as they begin.
abbrev pub sums_starts : ℕ → Sparse → List SumsState
sums_starts ranks m = map (sums_begins ranks m) (range_with_len 0 ranks)

-- Programs that have added up the columns of a matrix.
pub record SumsEnded (m : Sparse) (programs : List SumsState) : Type 0 where
  pub ranks : ℕ
  pub some : 1 ≤ ranks
  pub matrix : IsSparse m
  pub ended : HaveEnded sums_rules (sums_starts ranks m) programs
