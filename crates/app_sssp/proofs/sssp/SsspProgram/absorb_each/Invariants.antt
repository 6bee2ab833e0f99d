use Rattle.std.proofs.Common.{◌≡◌, length}
use Rattle.round_program.specs.Batches.{all_taken_in}
use Rattle.app_sssp.specs.Sssps.{sssp_rules}
use Rattle.app_sssp.specs.code.SsspSeats.{IsSsspSeat}
use Rattle.app_sssp.proofs.sssp.SsspProgram.absorb_each.Given as goal

-- what is left makes of this state what all makes of the first one
abbrev pub invariant-loop-from : goal.invariant-loop-from
invariant-loop-from g l = record {
  taken : all_taken_in sssp_rules l.self (g.I.Arrivals.items l.came) ≡ all_taken_in sssp_rules l.fn.self (g.I.Arrivals.items l.fn.came);
  sent : l.self.outgoing ≡ l.fn.self.outgoing;
  seat : IsSsspSeat l.seat l.self;
}

abbrev pub decreases-loop-from : goal.decreases-loop-from
decreases-loop-from g l = length (g.I.Arrivals.items l.came)
