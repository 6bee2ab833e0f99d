-- For each rank, the queries to it that await a reply.
use Rattle.std.specs.Prelude.{◌≡◌, ℕ, ◌<◌, List, length, slice_get, Some}
use Rattle.round_program.specs.Replies.{places_to}

-- One list for each of p ranks, with the numbers of all queries to it.
pub record HasLines (p : ℕ) (queries : List (ℕ × ℕ)) (lines : List (List ℕ)) : Type 0 where
  pub all : length lines ≡ p
  pub each : (d : ℕ) → d < p → slice_get lines d ≡ Some (places_to d 0 queries)
