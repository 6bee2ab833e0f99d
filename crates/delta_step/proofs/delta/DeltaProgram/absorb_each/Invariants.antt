-- What is left makes of this state what all makes of the first one.
use Rattle.std.proofs.Common.{◌≡◌, length}
use Rattle.round_program.specs.Batches.{all_taken_in}
use Rattle.delta_step.specs.Deltas.{delta_rules}
use Rattle.delta_step.specs.code.DeltaSeats.{IsDeltaSeat}
use Rattle.delta_step.proofs.delta.DeltaProgram.absorb_each.Given as goal

abbrev pub invariant-loop-from : goal.invariant-loop-from
invariant-loop-from g l = record {
  taken : all_taken_in delta_rules l.self (g.I.Arrivals.items l.came) ≡ all_taken_in delta_rules l.fn.self (g.I.Arrivals.items l.fn.came);
  sent : l.self.outgoing ≡ l.fn.self.outgoing;
  seat : IsDeltaSeat l.seat l.self;
}

abbrev pub decreases-loop-from : goal.decreases-loop-from
decreases-loop-from g l = length (g.I.Arrivals.items l.came)
