use Rattle.query_node.proofs.Answered.{Replying}
use Rattle.query_node.proofs.answering.push_answers.Given as goal

-- as after so many pulls
abbrev pub invariant-loop-entry : goal.invariant-loop-entry
invariant-loop-entry g l = Replying g.A.Asker.talk l.asker.value l.entry-index l.count l.queries l.fn.replies l.replies
