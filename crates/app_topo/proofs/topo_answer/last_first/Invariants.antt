use Rattle.std.proofs.Common.{◌≡◌, map, take}
use Rattle.app_topo.specs.TopoEnds.{cell_place}
use Rattle.app_topo.proofs.topo_answer.last_first.Given as goal

abbrev pub invariant-loop-cell : goal.invariant-loop-cell
invariant-loop-cell l = l.places.items ≡ map cell_place (take l.cell-index l.placed)
