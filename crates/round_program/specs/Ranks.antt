-- How many ranks there may be.
use Rattle.std.specs.Prelude.{ℕ, ◌<◌, ◌≤◌}

-- So many ranks there may be: from one to 64.
pub record AreRanks (ranks : ℕ) : Type 0 where
  pub some : 1 ≤ ranks
  pub few : ranks ≤ 64

-- A rank of so many, of which there may be up to 64.
-- Rank 3 of 4, and not rank 4.
pub record IsRankOf (ranks rank : ℕ) : Type 0 where
  pub below : rank < ranks
  pub few : ranks ≤ 64
