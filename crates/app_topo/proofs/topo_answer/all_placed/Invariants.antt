use Rattle.std.proofs.Common.{◌≡◌, length}
use Rattle.app_topo.proofs.TopoEnding.{upto_rank}
use Rattle.app_topo.proofs.topo_answer.all_placed.Given as goal

abbrev pub invariant-loop-rank : goal.invariant-loop-rank
invariant-loop-rank l = l.all ≡ upto_rank (length l.p) l.m l.rank
