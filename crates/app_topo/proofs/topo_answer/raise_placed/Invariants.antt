use Rattle.std.proofs.Common.{◌≡◌, map, take}
use Rattle.mtx_text.specs.Cells.{raised_all}
use Rattle.app_topo.specs.TopoEnds.{cell_of_level}
use Rattle.app_topo.proofs.topo_answer.raise_placed.Given as goal

abbrev pub invariant-loop-placed : goal.invariant-loop-placed
invariant-loop-placed l = l.all ≡ raised_all l.fn.all (map cell_of_level (take l.placed-index l.claimed))
