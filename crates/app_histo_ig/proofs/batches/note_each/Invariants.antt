-- What is left makes of these queries what all makes of the first ones.
use Rattle.std.proofs.Common.{◌≡◌, length, map, All}
use Rattle.app_histo_ig.specs.Igs.{IsIgQuery}
use Rattle.app_histo_ig.specs.code.Batches.{all_noted}
use Rattle.app_histo_ig.proofs.batches.note_each.Given as goal

abbrev pub invariant-loop-from : goal.invariant-loop-from
invariant-loop-from g l = record {
  taken : all_noted l.seat (map (λ q. q.items) l.queries.items) (g.I.Arrivals.items l.came) ≡ all_noted l.seat (map (λ q. q.items) l.fn.queries.items) (g.I.Arrivals.items l.fn.came);
  senders : length l.queries.items ≡ l.seat.ranks;
  asked : All (All (IsIgQuery l.seat.cols)) (map (λ q. q.items) l.queries.items);
}

abbrev pub decreases-loop-from : goal.decreases-loop-from
decreases-loop-from g l = length (g.I.Arrivals.items l.came)
