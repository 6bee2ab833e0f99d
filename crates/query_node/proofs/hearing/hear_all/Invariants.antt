use Rattle.hop_core.specs.Relay.{waiting}
use Rattle.query_node.specs.Taking.{Hears}
use Rattle.query_node.proofs.hearing.hear_all.Given as goal

abbrev pub invariant-loop-number : goal.invariant-loop-number
invariant-loop-number g l = Hears g.A.Asker.talk l.fn.asker.value l.asker.value l.fn.lines.items l.lines.items l.fn.replies l.replies

abbrev pub decreases-loop-number : goal.decreases-loop-number
decreases-loop-number g l = waiting l.replies.ins
