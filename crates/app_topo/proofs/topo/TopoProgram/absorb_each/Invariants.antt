use Rattle.std.proofs.Common.{◌≡◌, length}
use Rattle.round_program.specs.Batches.{all_taken_in}
use Rattle.app_topo.specs.Topos.{topo_rules}
use Rattle.app_topo.specs.code.TopoSeats.{IsTopoSeat}
use Rattle.app_topo.proofs.topo.TopoProgram.absorb_each.Given as goal

-- what is left makes of this state what all makes of the first one
abbrev pub invariant-loop-from : goal.invariant-loop-from
invariant-loop-from g l = record {
  taken : all_taken_in topo_rules l.self (g.I.Arrivals.items l.came) ≡ all_taken_in topo_rules l.fn.self (g.I.Arrivals.items l.fn.came);
  sent : l.self.outgoing ≡ l.fn.self.outgoing;
  seat : IsTopoSeat l.seat l.self;
}

abbrev pub decreases-loop-from : goal.decreases-loop-from
decreases-loop-from g l = length (g.I.Arrivals.items l.came)
