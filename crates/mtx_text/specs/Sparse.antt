-- What a matrix is: its sizes, its kind, and its entries as a list of triples, counted from 0.
use Rattle.std.specs.Prelude.{◌≡◌, ℕ, ◌≤◌, ◌<◌, List, length, pos, nat_abs}
use Rattle.std.specs.List.{All, AllPairs}
use Rattle.bale_items.specs.declared.triple.Triple.{Triple}
use Rattle.mtx_text.specs.declared.kind.Kind.{Kind}
use Rattle.mtx_text.specs.declared.kind.Kind.TheVariants.{Pattern}

-- A sparse matrix as its readers see it.
pub record Sparse : Type 0 where
  pub rows : ℕ
  pub cols : ℕ
  pub kind : Kind
  pub entries : List Triple

-- A matrix may have so many rows and columns.
-- tall, wide: at most 16,384 of each
pub record AreSides (rows cols : ℕ) : Type 0 where
  pub tall : rows ≤ 16_384
  pub wide : cols ≤ 16_384

-- A triple lies among so many rows and columns and has a value within the limits.
pub record IsInside (rows cols : ℕ) (t : Triple) : Type 0 where
  pub row : t.i < rows
  pub col : t.j < cols
  pub limit : nat_abs t.v ≤ 1_000_000_000_000

-- An entry lies inside its matrix and has a value within the limits, which is 1 if the kind is
-- Pattern.
pub record IsEntry (m : Sparse) (t : Triple) : Type 0 where
  pub row : t.i < m.rows
  pub col : t.j < m.cols
  pub limit : nat_abs t.v ≤ 1_000_000_000_000
  pub one : m.kind ≡ Pattern → t.v ≡ pos 1

-- Two triples that are at one place.
pub record SamePlace (s t : Triple) : Type 0 where
  pub row : s.i ≡ t.i
  pub col : s.j ≡ t.j

-- What every matrix keeps: sizes within the limits, entries inside, and no place twice.
pub record IsSparse (m : Sparse) : Type 0 where
  pub tall : m.rows ≤ 16_384
  pub wide : m.cols ≤ 16_384
  pub few : length m.entries ≤ 524_288
  pub inside : All (λ t. IsEntry m t) m.entries
  pub once : AllPairs (λ s t. ¬ SamePlace s t) m.entries
