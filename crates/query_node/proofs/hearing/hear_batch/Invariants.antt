use Rattle.query_node.proofs.Heard.{Taking}
use Rattle.query_node.proofs.hearing.hear_batch.Given as goal

-- as after so many pulls
abbrev pub invariant-loop-entry : goal.invariant-loop-entry
invariant-loop-entry g l = Taking g.A.Asker.talk l.fn.asker.value l.asker.value l.fn.lines.items l.lines.items l.entry-index l.fn.replies
