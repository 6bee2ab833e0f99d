use Rattle.exstack.specs.State.{stack_unread}
use Rattle.rank_node.specs.Pulls.{PopsItems}
use Rattle.rank_node.proofs.stacking.pop_all.Given as goal

abbrev pub invariant-loop-sender : goal.invariant-loop-sender
invariant-loop-sender g l = PopsItems g.Q.Program.rules l.voting l.fn.exstack l.exstack l.fn.prog.value l.prog.value l.fn.taken.sum l.taken.sum l.fn.taken.spoiled l.taken.spoiled

abbrev pub decreases-loop-sender : goal.decreases-loop-sender
decreases-loop-sender g l = stack_unread l.exstack
