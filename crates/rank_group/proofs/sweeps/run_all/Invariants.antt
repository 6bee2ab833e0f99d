use Rattle.std.proofs.Common.{ℕ, ◌+◌, ◌<◌, ◌≤◌, length}
use Rattle.route_tensor.specs.Link.{links}
use Rattle.port_bank.specs.Plain.{sent_of, got_of}
use Rattle.rank_group.specs.Turns.{SweepsOf}
use Rattle.rank_group.specs.RanksOverBank.{all_progress}
use Rattle.rank_group.proofs.Driven.{Driving, left}
use Rattle.rank_group.proofs.sweeps.run_all.Given as goal

abbrev pub invariant-loop-bank : goal.invariant-loop-bank
invariant-loop-bank g l = record {
  driving : Driving g.Q.Program.rules g.row.CAP l.fn.all.items l.fn.bank l.fn.steps l.all.items l.bank l.steps;
  completed : all_progress l.fn.bank.dims l.all.items + l.fn.steps ≤ all_progress l.fn.bank.dims l.fn.all.items + l.steps;
  posted : (r : ℕ) → r < links l.fn.bank.dims → length (sent_of l.bank r) + l.fn.steps ≤ length (sent_of l.fn.bank r) + l.steps;
  swept : (k : ℕ) × SweepsOf g.Q.Program.rules l.fn.bank.dims g.row.CAP l.fn.bank.slots l.order k
      (record { ranks = l.fn.all.items; sent = sent_of l.fn.bank; got = got_of l.fn.bank; turns = l.fn.steps }) (record { ranks = l.all.items; sent = sent_of l.bank; got = got_of l.bank; turns = l.steps });
}

abbrev pub decreases-loop-bank : goal.decreases-loop-bank
decreases-loop-bank g l = left g.Q.Program.rules l.fn.all.items l.fn.bank l.fn.steps l.steps
