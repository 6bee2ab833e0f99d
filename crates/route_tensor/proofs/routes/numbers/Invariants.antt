use Rattle.route_tensor.proofs.Filling.{Numbered}
use Rattle.route_tensor.proofs.routes.numbers.Given as goal

abbrev pub invariant-loop-i : goal.invariant-loop-i
invariant-loop-i l = Numbered l.grid l.rank l.i l.numbers.items
