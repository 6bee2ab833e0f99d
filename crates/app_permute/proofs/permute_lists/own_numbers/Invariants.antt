use Rattle.std.proofs.Common.{◌≡◌, take}
use Rattle.app_permute.specs.PermuteRuns.{own_numbers}
use Rattle.app_permute.proofs.permute_lists.own_numbers.Given as goal

abbrev pub invariant-loop-k : goal.invariant-loop-k
invariant-loop-k l = l.own.items ≡ take l.k (own_numbers l.ranks l.rank l.numbers)
