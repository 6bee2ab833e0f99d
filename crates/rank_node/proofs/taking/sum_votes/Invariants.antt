use Rattle.std.proofs.Common.{◌≡◌, length}
use Rattle.rank_node.specs.Batches.{sum_after}
use Rattle.rank_node.proofs.taking.sum_votes.Given as goal

-- what is left makes of this sum what all makes of the first one
abbrev pub invariant-loop-item : goal.invariant-loop-item
invariant-loop-item g l = sum_after l.sum (g.I.Arrivals.items l.came) ≡ sum_after l.fn.sum (g.I.Arrivals.items l.fn.came)

abbrev pub decreases-loop-item : goal.decreases-loop-item
decreases-loop-item g l = length (g.I.Arrivals.items l.came)
