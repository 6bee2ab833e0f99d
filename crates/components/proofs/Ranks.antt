-- What a drive asks of its caller, with no word on labels.
use Rattle.std.proofs.Common.{ℕ, ◌<◌, ◌≤◌, List, arith}
use Rattle.route_tensor.specs.Grid.{ranks, IsGrid}
use Rattle.route_tensor.proofs.Coordinates.{ranks_some}

-- a grid has a rank
pub some_ranks : (dims : List ℕ) → IsGrid dims → 1 ≤ ranks dims
some_ranks dims grid = (let some : 0 < ranks dims = ranks_some dims grid.positive in omega arith)
