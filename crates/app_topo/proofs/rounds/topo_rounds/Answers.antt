use Rattle.app_topo.proofs.TopoTable.{topo}
use Rattle.app_topo.proofs.rounds.topo_rounds.Goals as goal

pub returns : goal.returns
returns c = topo
