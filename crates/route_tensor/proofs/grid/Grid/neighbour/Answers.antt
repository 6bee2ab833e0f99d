use Rattle.std.proofs.Common.{arith}
use Rattle.route_tensor.proofs.Links.{sum_small}
use Rattle.route_tensor.proofs.grid.Grid.neighbour.Goals as goal

pub overflow_cast-result : goal.overflow_cast-result
overflow_cast-result c = omega (arith, sum_small c.args.self.now c.sum.ensures.grid, c.requires.number)
