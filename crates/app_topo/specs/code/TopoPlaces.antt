-- The places of a row's numbers, and of a column's entries.
use Rattle.std.specs.Prelude.{ℕ, ◌≡◌, ◌<◌, ◌≤◌, ◌/◌, ◌^◌, List, length, slice_index_or}
use Rattle.bale_items.specs.declared.triple.Triple.{Triple}
use Rattle.sparse_rows.specs.Owners.{places_for}

-- a row's number is among the numbers of a rank
-- small: the row fits into 32 bits
pub record IsPlaced (ranks row : ℕ) (numbers : List ℕ) : Type 0 where
  pub some : 0 < ranks
  pub small : row < 2 ^ 32
  pub place : row / ranks < length numbers

-- a row has a number and a sum
pub record IsCounted (ranks row : ℕ) (numbers sums : List ℕ) : Type 0 where
  pub some : 0 < ranks
  pub number : row / ranks < length numbers
  pub sum : row / ranks < length sums

-- a rank of so many has a number and a sum for each row of its own
pub record AreCounted (ranks rank size : ℕ) (numbers sums : List ℕ) : Type 0 where
  pub rank_below : rank < ranks
  pub numbers_for : length numbers ≡ places_for ranks size
  pub sums_for : length sums ≡ places_for ranks size

-- entries in order are split at a place: the rows before it are below `row`, and those from it on
-- are not
pub record SplitsAt (row at : ℕ) (entries : List Triple) : Type 0 where
  pub within : at ≤ length entries
  pub before : (k : ℕ) (d : Triple) → k < at → (slice_index_or entries k d).i < row
  pub from : (k : ℕ) (d : Triple) → at ≤ k → k < length entries → row ≤ (slice_index_or entries k d).i
