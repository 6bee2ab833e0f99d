use Rattle.app_topo.proofs.TopoLists.{above_first}
use Rattle.app_topo.proofs.spans.bound_from.Goals as goal

pub returns : goal.returns
returns c = λ k d up l. above_first c.args.columns.now c.args.at k d _ c.requires up l
