-- What a rank's buffers and its grid have in common.
use Rattle.std.specs.Prelude.{◌≡◌, ℕ, ◌<◌, List, length}
use Rattle.item_buffer.specs.Capacity.{IsCap}
use Rattle.route_tensor.specs.Grid.{ranks, IsGrid}

-- Parcels can hold cap entries, and the grid has this many hops.
pub record FitsGrid (cap hops : ℕ) (dims : List ℕ) : Type 0 where
  pub cap_is : IsCap cap
  pub hops_are : length dims ≡ hops

-- A rank of a grid.
pub record IsGridRank (dims : List ℕ) (rank : ℕ) : Type 0 where
  pub grid : IsGrid dims
  pub low : rank < ranks dims
