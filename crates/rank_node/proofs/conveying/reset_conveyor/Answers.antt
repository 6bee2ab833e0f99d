use Rattle.rank_node.proofs.Resumed.{goes_on_conveying}
use Rattle.rank_node.proofs.conveying.reset_conveyor.Goals as goal

pub returns : goal.returns
returns g c =
    goes_on_conveying c.args.conveyor.now c.reset.new.self c.begin.new.self c.reset.ensures.state c.begin.ensures.state c.reset.ensures.kept c.begin.ensures.kept c.reset.ensures.step c.begin.ensures.step c.known.ensures.sound
