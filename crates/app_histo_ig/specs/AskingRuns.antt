-- The askers of a matrix, before they have heard anything.
use Rattle.std.specs.Prelude.{ℕ, ◌<◌, ◌≡◌, ◌/◌, ◌%◌, List, map, length, Some, slice_get, slice_index_or, replicate}
use Rattle.bale_items.specs.Bits.{twos_complement}
use Rattle.mtx_text.specs.Sparse.{Sparse}
use Rattle.sparse_rows.specs.Owners.{own_entries, column_owner}
use Rattle.app_histo_ig.specs.IgLines.{column_sum}
use Rattle.app_histo_ig.specs.Sums.{SumsState}
use Rattle.app_histo_ig.specs.Asking.{AskingState}

-- The asker of a rank that has added up its columns.
abbrev pub asker_from : SumsState → AskingState
asker_from s =
    record {
      rank = s.rank;
      ranks = s.ranks;
      queries = map (λ e. (e.0, e.1.a)) s.values;
      sums = s.sums;
      answers = replicate (length s.values) 0;
    }

-- A rank that asks, for each of its entries in order, the column's owner for the column, has a
-- place for each reply, and knows the sums of its own columns, each as its two's complement.
pub record IsAskerOf (m : Sparse) (ranks rank : ℕ) (s : AskingState) : Type 0 where
  pub own_rank : s.rank ≡ rank
  pub all_ranks : s.ranks ≡ ranks
  pub places : length s.answers ≡ length s.queries
  pub asks : s.queries ≡ map (λ e. (column_owner ranks e, e.1.j)) (own_entries ranks rank m.entries)
  pub knows : (j : ℕ) → j < m.cols → j % ranks ≡ rank
      → slice_index_or s.sums (j / ranks) 0 ≡ twos_complement (column_sum j m.entries)

-- The askers of all ranks, in order.
pub record AreAskersOf (m : Sparse) (ranks : ℕ) (askers : List AskingState) : Type 0 where
  pub size : length askers ≡ ranks
  pub each : (r : ℕ) (s : AskingState) → slice_get askers r ≡ Some s → IsAskerOf m ranks r s
