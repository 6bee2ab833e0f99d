use Rattle.rank_node.proofs.Resumed.{goes_on_stacking}
use Rattle.rank_node.proofs.stacking.reset_exstack.Goals as goal

pub returns : goal.returns
returns g c = goes_on_stacking g.row.CAP c.args.exstack.now c.reset.new.self c.reset.ensures.state c.reset.ensures.kept c.reset.ensures.step c.known.ensures.standing
