use Rattle.query_node.proofs.Moments.{step_law}
use Rattle.query_node.proofs.law.steps_law.Goals as goal

pub returns : goal.returns
returns g c = step_law g.A.Asker.talk
