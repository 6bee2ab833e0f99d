-- Grids, ranks and coordinates.
use Rattle.std.specs.Prelude.{ℕ, zero, suc, ◌+◌, ◌-◌, ◌*◌, ◌/◌, ◌%◌, ◌<◌, ◌≤◌, List, [], ◌∷◌, length, slice_index, All}
use Rattle.route_tensor.specs.declared.by_hops.TheConstants.{MOST_HOPS}

-- The number of ranks of a grid: the product of its dimensions.
-- ranks (n1 .. nk) = n1 * .. * nk
-- The grid 2x3x5 has 30 ranks.
unfoldable pub ranks : List ℕ → ℕ
ranks [] = 1
ranks (n ∷ ns) = n * ranks ns

-- A grid: one to MOST_HOPS positive numbers with a product of at most 64.
-- 2x2x2 and 64 are grids; 9x8 isn't.
pub record IsGrid (dims : List ℕ) : Type 0 where
  pub some : 1 ≤ length dims
  pub few : length dims ≤ MOST_HOPS
  pub positive : All (λ n. 0 < n) dims
  pub small : ranks dims ≤ 64

-- Dimension h, counted from 1.
-- dim (n1 .. nk) h = nh
-- Dimension 3 of 2x3x5 is 5.
abbrev pub dim : List ℕ → ℕ → ℕ
dim dims h = slice_index dims (h - 1)

-- Coordinate h of a rank, counted from 1; 0 if the grid has no such dimension.
-- r = c1 + n1 * (c2 + n2 * c3)
-- In the grid 2x3x5 rank 29 has the coordinates 1, 2 and 4.
unfoldable pub coord : List ℕ → ℕ → ℕ → ℕ
coord [] r h = 0
coord (n ∷ ns) r zero = 0
coord (n ∷ ns) r (suc zero) = r % n
coord (n ∷ ns) r (suc (suc h)) = coord ns (r / n) (suc h)

-- The place of an entry from s to d after h hops: the rank with coordinates 1 to h of d and the
-- others of s.
-- place s d 0 = s, place s d k = d
-- In the grid 2x2x2 the places from rank 1 to rank 6 are 1, 0, 2 and 6.
unfoldable pub place : List ℕ → ℕ → ℕ → ℕ → ℕ
place [] s d h = s
place (n ∷ ns) s d zero = s
place (n ∷ ns) s d (suc h) = d % n + n * place ns (s / n) (d / n) h
