-- The runs of ig: how its programs begin, and what it is to have ended.
use Rattle.std.specs.Prelude.{ℕ, ◌≤◌, List, [], map, length, replicate}
use Rattle.std.specs.List.{range_with_len}
use Rattle.mtx_text.specs.Sparse.{Sparse, IsSparse}
use Rattle.round_program.specs.Canonical.{HaveEnded}
use Rattle.sparse_rows.specs.Owners.{own_entries, places_for, column_owner}
use Rattle.app_histo_ig.specs.Igs.{IgState, ig_rules, value_item}

-- A rank as ig begins: its entries, 0 for each column that it owns, and the values of its entries
-- in transit.
abbrev pub ig_begins : ℕ → Sparse → ℕ → IgState
ig_begins ranks m rank =
    record {
      rank = rank;
      ranks = ranks;
      round = 0;
      cols = m.cols;
      own = map (λ e. (e.0, e.1.j)) (own_entries ranks rank m.entries);
      sums = replicate (places_for ranks m.cols) 0;
      queries = replicate ranks [];
      outgoing = map (λ e. (column_owner ranks e, value_item e)) (own_entries ranks rank m.entries);
      answers = replicate (length (own_entries ranks rank m.entries)) 0;
    }

-- All ranks as ig begins.
abbrev pub ig_starts : ℕ → Sparse → List IgState
ig_starts ranks m = map (ig_begins ranks m) (range_with_len 0 ranks)

-- Programs that have run ig on a matrix to its end.
pub record IgEnded (m : Sparse) (programs : List IgState) : Type 0 where
  pub ranks : ℕ
  pub some : 1 ≤ ranks
  pub matrix : IsSparse m
  pub ended : HaveEnded ig_rules (ig_starts ranks m) programs
