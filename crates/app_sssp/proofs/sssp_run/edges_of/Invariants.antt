use Rattle.std.proofs.Common.{◌≡◌, [], map, take, slice_index_or}
use Rattle.sparse_rows.specs.Owners.{row_owner}
use Rattle.app_sssp.specs.SsspRuns.{edge_item}
use Rattle.app_sssp.proofs.sssp_run.edges_of.Given as goal

abbrev pub invariant-loop-x : goal.invariant-loop-x
invariant-loop-x l = l.edges.items ≡ map (λ e. (row_owner l.ranks e, edge_item e)) (take l.x (slice_index_or l.parts l.rank []))
