use Rattle.hop_core.specs.Relay.{waiting}
use Rattle.query_node.specs.Taking.{AnswersQueries}
use Rattle.query_node.proofs.answering.answer_open.Given as goal

abbrev pub invariant-loop-number : goal.invariant-loop-number
invariant-loop-number g l = AnswersQueries g.A.Asker.talk l.asker.value l.fn.queries l.queries l.fn.replies l.replies

abbrev pub decreases-loop-number : goal.decreases-loop-number
decreases-loop-number g l = waiting l.queries.ins
