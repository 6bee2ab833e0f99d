use Rattle.std.proofs.Common.{◌≡◌, map}
use Rattle.std.specs.List.{range_with_len}
use Rattle.app_histo_ig.specs.SumsRuns.{sums_begins}
use Rattle.app_histo_ig.proofs.ig_by_askers.ig_sums_start.Given as goal

abbrev pub invariant-loop-rank : goal.invariant-loop-rank
invariant-loop-rank l = l.progs ≡ map (sums_begins l.ranks l.m) (range_with_len 0 l.rank)
