use Rattle.std.proofs.Common.{◌≡◌, length}
use Rattle.round_program.specs.Batches.{all_taken_in}
use Rattle.round_program.proofs.program.Program.absorb_each.Given as goal

-- what is left makes of this state what all makes of the first one
abbrev pub invariant-loop-from : goal.invariant-loop-from
invariant-loop-from g l = record {
  taken : all_taken_in g.Self.Program.rules l.self (g.I.Arrivals.items l.came) ≡ all_taken_in g.Self.Program.rules l.fn.self (g.I.Arrivals.items l.fn.came);
  emissions : g.Self.Program.rules.emissions l.self ≡ g.Self.Program.rules.emissions l.fn.self;
}

abbrev pub decreases-loop-from : goal.decreases-loop-from
decreases-loop-from g l = length (g.I.Arrivals.items l.came)
