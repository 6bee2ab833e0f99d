use Rattle.std.proofs.Common.{arith}
use Rattle.route_tensor.proofs.Links.{sum_small}
use Rattle.route_tensor.proofs.routes.Routes.neighbours.Goals as goal

pub overflow_cast-result : goal.overflow_cast-result
overflow_cast-result c = omega (arith, sum_small c.self.inside.grid c.self.invariant.0.grid, c.self.invariant.0.all_neighbours, c.len.ensures)
