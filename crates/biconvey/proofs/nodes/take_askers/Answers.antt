use Rattle.biconvey.proofs.Making.{taken_more, taken_all}
use Rattle.biconvey.proofs.nodes.take_askers.Goals as goal

pub loop-node-preserved : goal.loop-node-preserved
loop-node-preserved g c =
    taken_more c.args.all.items c.loop-node.node-iterator c.next.new.self c.loop-node.askers c.add.new.self c.in-Some.node c.into_asker.result c.loop-node.invariant c.in-Some.ensures.steps c.in_ok-add.ensures.added c.into_asker.ensures

pub returns : goal.returns
returns g c = taken_all c.args.all.items c.loop-node.node-iterator c.loop-node.askers c.loop-node.invariant c.in-None.ensures.steps.0
