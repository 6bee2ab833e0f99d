-- The lines of one rank, read from those of all ranks.
use Rattle.std.specs.Prelude.{ℕ, ◌<◌, ◌≤◌, List, length, take}
use Rattle.app_tally.specs.TallyRuns.{own_lines}

-- The first `len` lines of a rank.
abbrev pub shared_lines : ℕ → ℕ → ℕ → List (List ℕ) → List (List ℕ)
shared_lines ranks rank len lines = take len (own_lines ranks rank lines)

-- The rank is one of the ranks and has at least `len` lines, and there are no more lines in all
-- than a text may have.
pub record IsShare (ranks rank len : ℕ) (lines : List (List ℕ)) : Type 0 where
  pub own : rank < ranks
  pub within : len ≤ length (own_lines ranks rank lines)
  pub few : length lines ≤ 16_777_216
