use Rattle.std.proofs.Common.{◌≡◌, map}
use Rattle.std.specs.List.{range_with_len}
use Rattle.app_topo.specs.TopoRuns.{topo_begins}
use Rattle.app_topo.proofs.topo_run.topo_start.Given as goal

abbrev pub invariant-loop-rank : goal.invariant-loop-rank
invariant-loop-rank l = l.progs ≡ map (topo_begins l.ranks l.m) (range_with_len 0 l.rank)
