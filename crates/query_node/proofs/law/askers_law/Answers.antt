use Rattle.query_node.proofs.Closing.{order_law, end_law}
use Rattle.query_node.proofs.law.askers_law.Goals as goal

pub returns-clause-order : goal.returns-clause-order
returns-clause-order g c = order_law g.A.Asker.talk g.met.A.Asker.laws c.closes_law.ensures

pub returns-clause-end : goal.returns-clause-end
returns-clause-end g c = end_law g.A.Asker.talk g.met.A.Asker.laws c.closes_law.ensures
