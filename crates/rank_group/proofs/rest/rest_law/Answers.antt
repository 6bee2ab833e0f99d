use Rattle.rank_group.proofs.Quiet.{nodes_rest}
use Rattle.rank_group.proofs.rest.rest_law.Goals as goal

pub returns : goal.returns
returns g c = nodes_rest g.Q.Program.rules c.rest_law.ensures
