-- An example: askers that answer a question with the next number.
use Rattle.std.specs.Prelude.{◌≡◌, ℕ, ◌+◌, ◌%◌, ◌^◌, ◌<◌, List, length, slice_set}
use Rattle.std.specs.List.{All}
use Rattle.round_program.specs.Talks.{Talk}

-- A rank's queries, and what it heard as the reply to each; 0 if it heard nothing yet.
pub record AdderState : Type 0 where
  pub rank : ℕ
  pub ranks : ℕ
  pub queries : List (ℕ × ℕ)
  pub heard : List ℕ

pub record IsAdder (s : AdderState) : Type 0 where
  pub asks : All (λ q. (q.0 < s.ranks) × (q.1 < 2 ^ 64)) s.queries
  pub places : length s.heard ≡ length s.queries

abbrev pub adder_talk : Talk AdderState
adder_talk = record {
  valid = IsAdder;
  rank = λ s. s.rank;
  ranks = λ s. s.ranks;
  queries = λ s. s.queries;
  answer = λ s from question. (question + 1) % 2 ^ 64;
  heard = λ s i reply. record s { heard = slice_set s.heard i reply };
}
