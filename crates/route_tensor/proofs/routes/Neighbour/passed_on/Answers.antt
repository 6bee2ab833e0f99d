use Rattle.std.proofs.Common.{arith}
use Rattle.route_tensor.proofs.Steps.{passed_on_1, passed_on_2}
use Rattle.route_tensor.proofs.routes.Neighbour.passed_on.Goals as goal

pub returns-then-self-eq1 : goal.returns-then-self-eq1
returns-then-self-eq1 c = rw c.from.ensures (passed_on_1 c.args.self.now c.args.tag c.if-self-eq1.true)

pub returns-else-self-eq1 : goal.returns-else-self-eq1
returns-else-self-eq1 c = rw c.from-else-self-eq1.ensures (passed_on_2 c.args.self.now c.args.tag (omega (arith, c.if-self-eq1.false, c.requires.first, c.requires.last)))
