-- What is left makes of these answers what all makes of the first ones.
use Rattle.std.proofs.Common.{◌≡◌, length}
use Rattle.app_histo_ig.specs.code.Batches.{all_answered}
use Rattle.app_histo_ig.proofs.batches.raise_each.Given as goal

abbrev pub invariant-loop-from : goal.invariant-loop-from
invariant-loop-from g l = all_answered l.ranks l.answers (g.I.Arrivals.items l.came) ≡ all_answered l.ranks l.fn.answers (g.I.Arrivals.items l.fn.came)

abbrev pub decreases-loop-from : goal.decreases-loop-from
decreases-loop-from g l = length (g.I.Arrivals.items l.came)
