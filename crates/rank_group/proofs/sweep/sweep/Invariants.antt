use Rattle.std.proofs.Common.{take}
use Rattle.port_bank.specs.Plain.{sent_of, got_of}
use Rattle.rank_group.specs.Turns.{TurnsOf}
use Rattle.rank_group.proofs.Orders.{Sweeping}
use Rattle.rank_group.proofs.sweep.sweep.Given as goal

abbrev pub invariant-loop-i : goal.invariant-loop-i
invariant-loop-i g l = record {
  sweeping : Sweeping g.Q.Program.rules g.row.CAP l.order l.fn.all.items l.fn.bank l.fn.steps l.i l.all.items l.bank l.steps;
  turns : TurnsOf g.Q.Program.rules l.fn.bank.dims g.row.CAP l.fn.bank.slots (take l.i l.order)
      (record { ranks = l.fn.all.items; sent = sent_of l.fn.bank; got = got_of l.fn.bank; turns = l.fn.steps }) (record { ranks = l.all.items; sent = sent_of l.bank; got = got_of l.bank; turns = l.steps });
}
