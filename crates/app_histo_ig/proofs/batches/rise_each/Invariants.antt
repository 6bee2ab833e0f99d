-- What is left makes of these sums what all makes of the first ones.
use Rattle.std.proofs.Common.{◌≡◌, length}
use Rattle.app_histo_ig.specs.code.Batches.{all_risen}
use Rattle.app_histo_ig.proofs.batches.rise_each.Given as goal

abbrev pub invariant-loop-from : goal.invariant-loop-from
invariant-loop-from g l = record {
  taken : all_risen l.seat l.sums (g.I.Arrivals.items l.came) ≡ all_risen l.seat l.fn.sums (g.I.Arrivals.items l.fn.came);
  places : length l.sums ≡ length l.fn.sums;
}

abbrev pub decreases-loop-from : goal.decreases-loop-from
decreases-loop-from g l = length (g.I.Arrivals.items l.came)
