use Rattle.rank_node.proofs.Took.{takes_both, takes_end}
use Rattle.rank_node.proofs.taking.take_all.Goals as goal

pub loop-number-preserved : goal.loop-number-preserved
loop-number-preserved g c =
    takes_both g.Q.Program.rules c.args.voting c.args.conveyor.now c.unread.new.self c.take_batch-taken.new.conveyor c.args.prog.now.value c.loop-number.prog.value c.take_batch-taken.new.prog.value
    c.args.taken.sum c.loop-number.taken.sum c.take_batch-taken.result.sum c.args.taken.spoiled c.loop-number.taken.spoiled c.take_batch-taken.result.spoiled
    (takes_end g.Q.Program.rules c.args.voting c.args.conveyor.now c.loop-number.conveyor c.unread.new.self c.args.prog.now.value c.loop-number.prog.value c.args.taken.sum c.loop-number.taken.sum c.args.taken.spoiled c.loop-number.taken.spoiled c.loop-number.invariant
    c.unread.ensures.state c.unread.ensures.kept c.unread.ensures.step)
    c.take_batch-taken.ensures.takes

pub returns-clause-takes : goal.returns-clause-takes
returns-clause-takes g c =
    takes_end g.Q.Program.rules c.args.voting c.args.conveyor.now c.loop-number.conveyor c.unread.new.self c.args.prog.now.value c.loop-number.prog.value c.args.taken.sum c.loop-number.taken.sum c.args.taken.spoiled c.loop-number.taken.spoiled c.loop-number.invariant
    c.unread.ensures.state c.unread.ensures.kept c.unread.ensures.step
