use Rattle.std.proofs.Common.{◌≡◌, true, take}
use Rattle.least_walks.specs.Walks.{no_negative}
use Rattle.least_walks.proofs.weights.no_negative.Given as goal

abbrev pub invariant-loop-t : goal.invariant-loop-t
invariant-loop-t l = no_negative (take l.t-index l.entries) ≡ true
