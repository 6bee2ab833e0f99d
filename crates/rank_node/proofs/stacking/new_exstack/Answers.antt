use Rattle.rank_node.proofs.Fresh.{new_stacking}
use Rattle.rank_node.proofs.stacking.new_exstack.Goals as goal

pub returns : goal.returns
returns g c = new_stacking c.args.grid.now c.args.rank g.row.CAP c.in_ok-exstack.exstack c.in_ok-exstack.ensures.made c.in_ok-exstack.ensures.grid c.in_ok-exstack.ensures.agrees c.known.ensures.standing
