use Rattle.std.proofs.Common.{◌≡◌, map}
use Rattle.std.specs.List.{range_with_len}
use Rattle.app_permute.specs.PermuteRuns.{permute_begins}
use Rattle.app_permute.proofs.permute_run.permute_start.Given as goal

abbrev pub invariant-loop-rank : goal.invariant-loop-rank
invariant-loop-rank l = l.progs ≡ map (permute_begins l.ranks l.m l.rp l.cp) (range_with_len 0 l.rank)
