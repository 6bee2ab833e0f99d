use Rattle.std.proofs.Common.{◌≡◌}
use Rattle.route_tensor.specs.Tag.{tag_at}
use Rattle.route_tensor.proofs.Filling.{Filled}
use Rattle.route_tensor.proofs.routes.stamps.Given as goal

abbrev pub invariant-loop-d : goal.invariant-loop-d
invariant-loop-d l = Filled (λ d e. e.tag ≡ tag_at l.grid l.rank d 1) l.d l.stamps.items
