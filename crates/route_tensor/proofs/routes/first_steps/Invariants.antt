use Rattle.std.proofs.Common.{◌≡◌}
use Rattle.route_tensor.specs.Routes.{first_step}
use Rattle.route_tensor.proofs.Filling.{Filled}
use Rattle.route_tensor.proofs.routes.first_steps.Given as goal

abbrev pub invariant-loop-d : goal.invariant-loop-d
invariant-loop-d l = Filled (λ d step. step ≡ first_step l.grid l.rank d) l.d l.steps.items
