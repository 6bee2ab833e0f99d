use Rattle.hop_core.specs.Relay.{waiting}
use Rattle.rank_node.specs.Pulls.{PullsItems}
use Rattle.rank_node.proofs.taking.take_all.Given as goal

abbrev pub invariant-loop-number : goal.invariant-loop-number
invariant-loop-number g l = PullsItems g.Q.Program.rules l.voting l.fn.conveyor l.conveyor l.fn.prog.value l.prog.value l.fn.taken.sum l.taken.sum l.fn.taken.spoiled l.taken.spoiled

abbrev pub decreases-loop-number : goal.decreases-loop-number
decreases-loop-number g l = waiting l.conveyor.ins
