use Rattle.std.proofs.Common.{take}
use Rattle.rank_group.specs.Turns.{InTurn}
use Rattle.biconvey.specs.Turns.{IsAskingTurn}
use Rattle.biconvey.specs.RanksOverBanks.{sides_of}
use Rattle.biconvey.proofs.Swept.{Sweeping}
use Rattle.biconvey.proofs.sweep.sweep.Given as goal

abbrev pub invariant-loop-i : goal.invariant-loop-i
invariant-loop-i g l = record {
  sweeping : Sweeping g.A.Asker.talk g.row.CAP l.fn.banks.queries.dims l.fn.banks.queries.slots l.order l.fn.all.items (sides_of l.fn.banks.queries l.fn.banks.replies) l.fn.steps l.i l.all.items l.banks.queries l.banks.replies l.steps;
  turns : InTurn (IsAskingTurn g.A.Asker.talk l.fn.banks.queries.dims g.row.CAP l.fn.banks.queries.slots) (take l.i l.order)
      (record { ranks = l.fn.all.items; sides = sides_of l.fn.banks.queries l.fn.banks.replies; turns = l.fn.steps })
      (record { ranks = l.all.items; sides = sides_of l.banks.queries l.banks.replies; turns = l.steps });
}
