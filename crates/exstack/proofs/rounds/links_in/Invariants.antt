use Rattle.std.proofs.Common.{◌≡◌, replicate}
use Rattle.exstack.specs.Links.{no_stack_in}
use Rattle.exstack.proofs.rounds.links_in.Given as goal

abbrev pub invariant-loop : goal.invariant-loop
invariant-loop g l = l.links.items ≡ replicate l.counter no_stack_in
