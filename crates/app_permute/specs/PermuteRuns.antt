-- The runs of permute: how its programs begin, and what it is to have ended.
use Rattle.std.specs.Prelude.{ℕ, ◌%◌, ◌≤◌, List, [], map}
use Rattle.std.specs.List.{range_with_len, enumerate_from}
use Rattle.mtx_text.specs.Sparse.{Sparse, IsSparse}
use Rattle.mtx_text.specs.Permutations.{Permutes}
use Rattle.round_program.specs.Canonical.{HaveEnded}
use Rattle.sparse_rows.specs.Deals.{dealt}
use Rattle.sparse_rows.specs.Owners.{own_entries, row_owner}
use Rattle.app_permute.specs.Carried.{cell_item}
use Rattle.app_permute.specs.Permutes.{PermuteState, permute_rules}

-- The new numbers of the rows or columns that a rank owns, in order.
-- of the new numbers 2, 0, 1, 3 on 2 ranks, rank 1 has 0, 3: those of the numbers 1 and 3.
abbrev pub own_numbers : ℕ → ℕ → List ℕ → List ℕ
own_numbers ranks rank p = map (λ e. e.1) (dealt (λ e. e.0 % ranks) rank (enumerate_from 0 p))

-- A rank as permute begins: its entries in transit to the owners of their rows, and the new
-- numbers of what it owns.
abbrev pub permute_begins : ℕ → Sparse → List ℕ → List ℕ → ℕ → PermuteState
permute_begins ranks m p q rank =
    record {
      rank = rank;
      ranks = ranks;
      round = 0;
      rows = m.rows;
      cols = m.cols;
      new_rows = own_numbers ranks rank p;
      new_cols = own_numbers ranks rank q;
      outgoing = map (λ e. (row_owner ranks e, cell_item e.1)) (own_entries ranks rank m.entries);
      cells = [];
    }

-- All ranks as permute begins.
abbrev pub permute_starts : ℕ → Sparse → List ℕ → List ℕ → List PermuteState
permute_starts ranks m p q = map (permute_begins ranks m p q) (range_with_len 0 ranks)

-- Programs that have run permute on a matrix and two permutations to its end.
pub record PermuteEnded (p q : List ℕ) (m : Sparse) (programs : List PermuteState) : Type 0 where
  pub ranks : ℕ
  pub some : 1 ≤ ranks
  pub matrix : IsSparse m
  pub rows : Permutes m.rows p
  pub cols : Permutes m.cols q
  pub ended : HaveEnded permute_rules (permute_starts ranks m p q) programs
