use Rattle.std.proofs.Common.{◌≡◌, map, take, Bor, List}
use Rattle.std.specs.List.{flat_map}
use Rattle.bale_items.specs.declared.triple.Triple.{Triple}
use Rattle.mtx_text.specs.Cells.{gathered_cells, together}
use Rattle.mtx_text.proofs.cells.Cells.of_maps.Given as goal

abbrev pub invariant-loop-m : goal.invariant-loop-m
invariant-loop-m l =
    gathered_cells (flat_map (λ (list : Bor (List Triple)). list.now) l.lists.items)
    ≡ together (map (λ (m : Bor (List Triple)). m.now) (take l.m-index l.maps))
