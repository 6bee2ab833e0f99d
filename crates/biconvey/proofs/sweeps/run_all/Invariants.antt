use Rattle.std.proofs.Common.{ℕ, ◌≡◌, ◌⊎◌, ◌+◌, ◌≤◌}
use Rattle.route_tensor.specs.Grid.{ranks}
use Rattle.rank_group.specs.Turns.{InSweeps}
use Rattle.biconvey.specs.Turns.{IsAskingTurn}
use Rattle.biconvey.specs.RanksOverBanks.{PostedWithin, sides_of}
use Rattle.biconvey.proofs.Driven.{Driving, left}
use Rattle.biconvey.proofs.sweeps.run_all.Given as goal

abbrev pub invariant-loop-banks : goal.invariant-loop-banks
invariant-loop-banks g l = record {
  rose : l.fn.steps ≤ l.steps;
  turned : (l.all.items ≡ l.fn.all.items) ⊎ (l.fn.steps + ranks l.fn.banks.queries.dims ≤ l.steps);
  posted : PostedWithin l.fn.banks.queries.dims (sides_of l.fn.banks.queries l.fn.banks.replies) l.fn.steps (sides_of l.banks.queries l.banks.replies) l.steps;
  swept : (k : ℕ) × InSweeps (IsAskingTurn g.A.Asker.talk l.fn.banks.queries.dims g.row.CAP l.fn.banks.queries.slots) l.order k
      (record { ranks = l.fn.all.items; sides = sides_of l.fn.banks.queries l.fn.banks.replies; turns = l.fn.steps })
      (record { ranks = l.all.items; sides = sides_of l.banks.queries l.banks.replies; turns = l.steps });
  driving : Driving g.A.Asker.talk g.row.CAP l.fn.banks.queries.dims l.fn.banks.queries.slots l.fn.all.items (sides_of l.fn.banks.queries l.fn.banks.replies) l.fn.steps l.all.items l.banks.queries l.banks.replies l.steps;
}

abbrev pub decreases-loop-banks : goal.decreases-loop-banks
decreases-loop-banks g l = left g.A.Asker.talk l.fn.banks.queries.dims l.fn.all.items l.all.items l.banks.queries l.banks.replies
