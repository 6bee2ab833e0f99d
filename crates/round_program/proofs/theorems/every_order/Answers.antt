use Rattle.round_program.proofs.Orders.{one_more_pull, every_order, canonical_order}
use Rattle.round_program.proofs.theorems.every_order.Goals as goal

pub returns-clause-one_more_pull : goal.returns-clause-one_more_pull
returns-clause-one_more_pull g c = one_more_pull g.Q.Program.rules g.met.Q.Program.laws

pub returns-clause-every_order : goal.returns-clause-every_order
returns-clause-every_order g c = every_order g.Q.Program.rules g.met.Q.Program.laws

pub returns-clause-canonical : goal.returns-clause-canonical
returns-clause-canonical g c = canonical_order g.Q.Program.rules g.met.Q.Program.laws
