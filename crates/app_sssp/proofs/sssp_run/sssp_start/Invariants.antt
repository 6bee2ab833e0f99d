use Rattle.std.proofs.Common.{◌≡◌, map}
use Rattle.std.specs.List.{range_with_len}
use Rattle.app_sssp.specs.SsspRuns.{sssp_begins}
use Rattle.app_sssp.proofs.sssp_run.sssp_start.Given as goal

abbrev pub invariant-loop-rank : goal.invariant-loop-rank
invariant-loop-rank l = l.progs ≡ map (sssp_begins l.ranks l.m l.source) (range_with_len 0 l.rank)
