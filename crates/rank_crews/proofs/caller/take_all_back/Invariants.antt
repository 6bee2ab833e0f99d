use Rattle.std.proofs.Common.{◌≡◌, map}
use Rattle.rank_crews.specs.Children.{first_of}
use Rattle.rank_crews.proofs.caller.take_all_back.Given as goal

abbrev pub invariant-loop-i : goal.invariant-loop-i
invariant-loop-i g l = map first_of l.children.items ≡ map first_of l.fn.children.items
