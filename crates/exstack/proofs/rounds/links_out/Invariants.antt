use Rattle.std.proofs.Common.{◌≡◌, replicate}
use Rattle.exstack.specs.Links.{no_stack_out}
use Rattle.exstack.proofs.rounds.links_out.Given as goal

abbrev pub invariant-loop : goal.invariant-loop
invariant-loop g l = l.links.items ≡ replicate l.counter no_stack_out
