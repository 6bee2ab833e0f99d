-- The lines that are counted.
use Rattle.std.specs.Prelude.{ℕ, ◌≤◌, List, length}
use Rattle.std.specs.List.{All}
use Rattle.elastic.specs.Spelling.{IsLetter}

-- Not too many lines, each of which may be sent.
pub record IsLines (lines : List (List ℕ)) : Type 0 where
  pub few : length lines ≤ 16_777_216
  pub letters : All IsLetter lines
