use Rattle.app_topo.proofs.TopoLists.{below_last}
use Rattle.app_topo.proofs.spans.bound_before.Goals as goal

pub returns : goal.returns
returns c = λ k d l. below_last c.args.columns.now k c.args.at d _ c.requires.ordered l c.requires.within
