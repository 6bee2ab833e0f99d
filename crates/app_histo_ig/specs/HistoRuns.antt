-- The runs of histo: how its programs begin, and what it is to have ended.
use Rattle.std.specs.Prelude.{ℕ, ◌≤◌, List, map, replicate}
use Rattle.std.specs.List.{range_with_len}
use Rattle.mtx_text.specs.Sparse.{Sparse, IsSparse}
use Rattle.round_program.specs.Canonical.{HaveEnded}
use Rattle.sparse_rows.specs.Owners.{own_entries, places_for}
use Rattle.app_histo_ig.specs.Histos.{HistoState, histo_rules}

-- A rank as histo begins: the columns of its entries, and 0 for each column that it owns.
abbrev pub histo_begins : ℕ → Sparse → ℕ → HistoState
histo_begins ranks m rank =
    record {
      rank = rank;
      ranks = ranks;
      round = 0;
      cols = m.cols;
      columns = map (λ e. e.1.j) (own_entries ranks rank m.entries);
      counts = replicate (places_for ranks m.cols) 0;
    }

-- All ranks as histo begins.
-- Entries in the columns 0, 2, 2, 2 of 3 on 2 ranks: rank 0 has the columns 0, 2, rank 1 has 2, 2,
-- each two counts 0.
abbrev pub histo_starts : ℕ → Sparse → List HistoState
histo_starts ranks m = map (histo_begins ranks m) (range_with_len 0 ranks)

-- Programs that have run histo on a matrix to its end.
pub record HistoEnded (m : Sparse) (programs : List HistoState) : Type 0 where
  pub ranks : ℕ
  pub some : 1 ≤ ranks
  pub matrix : IsSparse m
  pub ended : HaveEnded histo_rules (histo_starts ranks m) programs
