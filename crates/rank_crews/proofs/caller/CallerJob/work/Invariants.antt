use Rattle.std.proofs.Common.{◌≡◌, map}
use Rattle.rank_crews.specs.Children.{first_of}
use Rattle.rank_crews.proofs.caller.CallerJob.work.Given as goal

abbrev pub invariant-loop : goal.invariant-loop
invariant-loop g l = map first_of l.children.items ≡ map first_of l.fn.self.children.items
