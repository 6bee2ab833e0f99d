use Rattle.std.proofs.Common.{◌≡◌, ◌++◌, length, map}
use Rattle.app_histo_ig.specs.AskingRuns.{asker_from}
use Rattle.app_histo_ig.proofs.ig_by_askers.all_askers.Given as goal

abbrev pub invariant-loop-q : goal.invariant-loop-q
invariant-loop-q l = l.askers ++ map asker_from l.p ≡ map asker_from l.fn.p

abbrev pub decreases-loop-q : goal.decreases-loop-q
decreases-loop-q l = length l.p
