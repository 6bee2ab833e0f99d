-- Looking up places of other ranks' tables, as an exchange of queries and replies.
use Rattle.std.specs.Prelude.{ℕ, ◌^◌, ◌<◌, ◌≡◌, List, length, slice_index, slice_set}
use Rattle.std.specs.List.{All}
use Rattle.round_program.specs.Talks.{Talk}

-- one rank's part
pub record LookupState : Type 0 where
  pub rank : ℕ
  pub ranks : ℕ
  pub table : List ℕ
  pub queries : List (ℕ × ℕ)
  pub heard : List ℕ

-- queries go to ranks, and each has a place for its reply
pub record IsLookup (s : LookupState) : Type 0 where
  pub values : All (λ v. v < 2 ^ 64) s.table
  pub asks : All (λ q. (q.0 < s.ranks) × (q.1 < 2 ^ 64)) s.queries
  pub replies : length s.heard ≡ length s.queries

-- the answer to a question is the value at that place, or 0 past the table's end
abbrev pub lookup_talk : Talk LookupState
lookup_talk =
    record {
      valid = IsLookup;
      rank = λ s. s.rank;
      ranks = λ s. s.ranks;
      queries = λ s. s.queries;
      answer = λ s from question. slice_index s.table question;
      heard = λ s i reply. record s { heard = slice_set s.heard i reply };
    }
