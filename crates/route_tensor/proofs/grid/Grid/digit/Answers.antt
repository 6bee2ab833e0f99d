use Rattle.std.proofs.Common.{sym, arith}
use Rattle.route_tensor.proofs.Coordinates.{coord_past}
use Rattle.route_tensor.proofs.grid.Grid.digit.Goals as goal

pub returns-else-h-hops-clause-value : goal.returns-else-h-hops-clause-value
returns-else-h-hops-clause-value c = sym (coord_past _ _ _ (omega arith))
