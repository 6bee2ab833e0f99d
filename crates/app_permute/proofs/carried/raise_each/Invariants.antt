-- What is left makes of these cells what all makes of the first ones.
use Rattle.std.proofs.Common.{◌≡◌, length, All}
use Rattle.mtx_text.specs.Cells.{InOrder}
use Rattle.app_permute.specs.code.Batches.{all_raised}
use Rattle.app_permute.specs.Permutes.{IsKeptCell}
use Rattle.app_permute.proofs.carried.raise_each.Given as goal

abbrev pub invariant-loop-from : goal.invariant-loop-from
invariant-loop-from g l = record {
  taken : all_raised l.owner l.cells (g.I.Arrivals.items l.came) ≡ all_raised l.owner l.fn.cells (g.I.Arrivals.items l.fn.came);
  ordered : InOrder l.cells;
  own : All (IsKeptCell l.owner.rows l.owner.cols l.owner.ranks l.owner.rank) l.fn.cells → All (IsKeptCell l.owner.rows l.owner.cols l.owner.ranks l.owner.rank) l.cells;
}

abbrev pub decreases-loop-from : goal.decreases-loop-from
decreases-loop-from g l = length (g.I.Arrivals.items l.came)
