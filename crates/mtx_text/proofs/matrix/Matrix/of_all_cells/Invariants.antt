use Rattle.std.proofs.Common.{◌≡◌, take}
use Rattle.std.specs.List.{All}
use Rattle.mtx_text.specs.Cells.{InOrder, gathered_cells, together}
use Rattle.mtx_text.proofs.matrix.Matrix.of_all_cells.Given as goal

abbrev pub invariant-loop-cells : goal.invariant-loop-cells
invariant-loop-cells l = record {
  same : gathered_cells l.triples.items ≡ together (take l.cells-index l.all);
  ordered : All (λ cells. InOrder cells) (take l.cells-index l.all);
}
