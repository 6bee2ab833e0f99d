-- Ranks that have the sums of their columns and ask for those of their entries' columns.
use Rattle.std.specs.Prelude.{ℕ, ◌/◌, ◌^◌, ◌<◌, ◌≡◌, List, length, slice_set, slice_index_or}
use Rattle.std.specs.List.{All}
use Rattle.round_program.specs.Talks.{Talk}

-- one rank's part
pub record AskingState : Type 0 where
  pub rank : ℕ
  pub ranks : ℕ
  -- for each own entry, in order, its column's owner and its column
  pub queries : List (ℕ × ℕ)
  -- the sums of own columns, as words; that of column j is at j div ranks
  pub sums : List ℕ
  -- what was heard for each own entry
  pub answers : List ℕ

-- each query goes to a rank, sums are words, and there is a place for each reply
pub record IsAsking (s : AskingState) : Type 0 where
  pub some : 0 < s.ranks
  pub asks : All (λ q. (q.0 < s.ranks) × (q.1 < 2 ^ 64)) s.queries
  pub words : All (λ v. v < 2 ^ 64) s.sums
  pub places : length s.answers ≡ length s.queries

-- A question is a column, and its answer the sum of this column.
abbrev pub ig_talk : Talk AskingState
ig_talk =
    record {
      valid = IsAsking;
      rank = λ s. s.rank;
      ranks = λ s. s.ranks;
      queries = λ s. s.queries;
      answer = λ s from question. slice_index_or s.sums (question / s.ranks) 0;
      heard = λ s i reply. record s { answers = slice_set s.answers i reply };
    }
