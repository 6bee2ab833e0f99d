use Rattle.std.proofs.Common.{◌≡◌, List, Bor, length, map}
use Rattle.std.specs.List.{range_with_len, flat_map}
use Rattle.bale_items.specs.declared.triple.Triple.{Triple}
use Rattle.mtx_text.specs.Cells.{gathered_cells, together}
use Rattle.sparse_rows.specs.Deals.{dealt}
use Rattle.sparse_rows.proofs.Gathering.{row_of}
use Rattle.app_permute.proofs.TransposeOwners.{turned_cells}
use Rattle.app_permute.proofs.transpose_run.transpose_end.Given as goal

abbrev pub invariant-loop-rank : goal.invariant-loop-rank
invariant-loop-rank l =
    together (map (λ (m : Bor (List Triple)). m.now) l.maps.items)
    ≡ gathered_cells (flat_map (λ r. dealt (row_of (length l.p)) r (turned_cells l.m)) (range_with_len 0 l.rank))
