use Rattle.std.proofs.Common.{◌≡◌, map}
use Rattle.std.specs.List.{range_with_len}
use Rattle.app_permute.specs.TransposeRuns.{transpose_begins}
use Rattle.app_permute.proofs.transpose_run.transpose_start.Given as goal

abbrev pub invariant-loop-rank : goal.invariant-loop-rank
invariant-loop-rank l = l.progs ≡ map (transpose_begins l.ranks l.m) (range_with_len 0 l.rank)
