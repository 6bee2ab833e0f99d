-- What is left makes of these counts and this sum what all makes of the first ones.
use Rattle.std.proofs.Common.{◌≡◌, length}
use Rattle.round_examples.specs.code.TrafficBatches.{all_counted, all_checked}
use Rattle.round_examples.proofs.traffic.count_each.Given as goal

abbrev pub invariant-loop-from : goal.invariant-loop-from
invariant-loop-from g l = record {
  counts : all_counted l.ranks l.counts (g.I.Arrivals.items l.came) ≡ all_counted l.fn.ranks l.fn.counts (g.I.Arrivals.items l.fn.came);
  check : all_checked l.ranks l.check (g.I.Arrivals.items l.came) ≡ all_checked l.fn.ranks l.fn.check (g.I.Arrivals.items l.fn.came);
}

abbrev pub decreases-loop-from : goal.decreases-loop-from
decreases-loop-from g l = length (g.I.Arrivals.items l.came)
