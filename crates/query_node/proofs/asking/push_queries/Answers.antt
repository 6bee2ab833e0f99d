use Rattle.std.proofs.Common.{arith}
use Rattle.round_program.specs.Replies.{asks_of}
use Rattle.rank_node.proofs.Offered.{push_more, none_left}
use Rattle.query_node.proofs.Offering.{offers_end}
use Rattle.query_node.proofs.asking.push_queries.Goals as goal

pub returns-in-Full : goal.returns-in-Full
returns-in-Full g c =
    let es = asks_of g.A.Asker.talk c.args.asker.now.value in
    offers_end es g.row.CAP c.args.conveyor.now c.push_query.new.conveyor c.args.from c.loop-next.next c.count-count.result
    (push_more es c.args.conveyor.now c.loop-next.conveyor c.push_query.new.conveyor c.args.from c.loop-next.next c.loop-next.next c.count-count.result
    c.loop-next.invariant c.loop-next-test.true (omega arith) (omega (arith, c.loop-next-test.true)) c.push_query.ensures.same c.push_query.ensures.kept (c.push_query.ensures.refused c.in-Full.is))
    (c.push_query.ensures.full c.in-Full.is)

pub returns : goal.returns
returns g c =
    let es = asks_of g.A.Asker.talk c.args.asker.now.value in
    offers_end es g.row.CAP c.args.conveyor.now c.loop-next.conveyor c.args.from c.loop-next.next c.count-count.result c.loop-next.invariant
    (λ to x is. none_left es c.loop-next.next (to, x) (omega (arith, c.loop-next-test.false, c.loop-next.invariant.all)) is)
