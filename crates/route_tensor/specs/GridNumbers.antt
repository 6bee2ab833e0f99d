-- A grid as the code keeps it.
pub mod Laws
use Rattle.std.specs.Prelude.{◌≡◌, ℕ, ◌<◌, ◌≤◌, List, [], ◌∷◌, take}
use Rattle.route_tensor.specs.Grid.{IsGrid}

-- The dimensions of a grid that is kept as their number and three numbers.
abbrev pub dims_kept : ℕ → ℕ → ℕ → ℕ → List ℕ
dims_kept hops n1 n2 n3 = take hops (n1 ∷ n2 ∷ n3 ∷ [])

-- The dimensions are those of a grid, and the numbers past the last one are 1.
pub record IsKeptGrid (hops n1 n2 n3 : ℕ) : Type 0 where
  pub grid : IsGrid (dims_kept hops n1 n2 n3)
  pub few : hops ≤ 3
  pub second : hops < 2 → n2 ≡ 1
  pub third : hops < 3 → n3 ≡ 1
