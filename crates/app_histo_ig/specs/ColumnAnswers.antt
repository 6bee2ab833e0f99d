-- What ranks have to know to write the answer of ig.
use Rattle.std.specs.Prelude.{◌≡◌, ℕ, ◌<◌, ◌≤◌, ◌/◌, ◌%◌, List, [], length, Some, slice_get, slice_index_or}
use Rattle.bale_items.specs.declared.triple.Triple.{Triple}
use Rattle.bale_items.specs.Bits.{twos_complement}
use Rattle.mtx_text.specs.Sparse.{Sparse, IsSparse}
use Rattle.round_program.specs.Replies.{HaveHeard}
use Rattle.app_histo_ig.specs.IgLines.{column_sum}
use Rattle.app_histo_ig.specs.Asking.{AskingState, ig_talk}
use Rattle.app_histo_ig.specs.AskingRuns.{AreAskersOf}

-- Of P lists of words, one a rank, the word for entry number e.
-- Of the lists (5, 7) and (6) that for entry 2 is 7.
abbrev pub word_for : List (List ℕ) → ℕ → ℕ
word_for answers e = slice_index_or (slice_index_or answers (e % length answers) []) (e / length answers) 0

-- Each entry's rank has the sum of the entry's column, as its two's complement.
pub record HaveSums (entries : List Triple) (answers : List (List ℕ)) : Type 0 where
  pub some : 0 < length answers
  pub place : (e : ℕ) → e < length entries
      → e / length answers < length (slice_index_or answers (e % length answers) [])
  pub word : (e : ℕ) (t : Triple) → slice_get entries e ≡ Some t
      → word_for answers e ≡ twos_complement (column_sum t.j entries)

-- The askers of a matrix after each has heard, for each of its entries, the answer of the rank
-- asked.
pub record IgHeard (m : Sparse) (askers : List AskingState) : Type 0 where
  pub ranks : ℕ
  pub some : 1 ≤ ranks
  pub matrix : IsSparse m
  pub began : List AskingState
  pub are : AreAskersOf m ranks began
  pub heard : HaveHeard ig_talk began askers
