use Rattle.std.proofs.Common.{◌≡◌}
use Rattle.route_tensor.specs.Routes.{about}
use Rattle.route_tensor.proofs.Filling.{Filled}
use Rattle.route_tensor.proofs.routes.neighbours.Given as goal

abbrev pub invariant-loop-i : goal.invariant-loop-i
invariant-loop-i l = Filled (λ i n. n ≡ about l.grid l.rank i) l.i l.all.items
