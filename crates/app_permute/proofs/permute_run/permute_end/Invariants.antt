use Rattle.std.proofs.Common.{ℕ, List, Bor, ◌≡◌, length, map}
use Rattle.std.specs.List.{range_with_len, flat_map}
use Rattle.bale_items.specs.declared.triple.Triple.{Triple}
use Rattle.mtx_text.specs.Cells.{gathered_cells, together}
use Rattle.sparse_rows.specs.Deals.{dealt}
use Rattle.sparse_rows.proofs.Gathering.{row_of}
use Rattle.app_permute.specs.PermuteRuns.{PermuteEnded}
use Rattle.app_permute.proofs.PermuteOwners.{moved_cells}
use Rattle.app_permute.proofs.permute_run.permute_end.Given as goal

abbrev pub invariant-loop-rank : goal.invariant-loop-rank
invariant-loop-rank l =
    (rp cp : List ℕ) → PermuteEnded rp cp l.m l.p → together (map (λ (m : Bor (List Triple)). m.now) l.maps.items) ≡ gathered_cells (flat_map (λ r. dealt (row_of (length l.p)) r (moved_cells rp cp l.m)) (range_with_len 0 l.rank))
