use Rattle.std.proofs.Common.{◌-◌}
use Rattle.round_program.specs.Replies.{asks_of}
use Rattle.rank_node.proofs.Offered.{Offers}
use Rattle.query_node.proofs.asking.push_queries.Given as goal

abbrev pub invariant-loop-next : goal.invariant-loop-next
invariant-loop-next g l = Offers (asks_of g.A.Asker.talk l.asker.value) l.fn.conveyor l.conveyor l.fn.from l.next l.count

abbrev pub decreases-loop-next : goal.decreases-loop-next
decreases-loop-next g l = l.count - l.next
