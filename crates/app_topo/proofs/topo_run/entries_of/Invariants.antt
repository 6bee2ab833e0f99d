use Rattle.std.proofs.Common.{◌≡◌, [], map, take, slice_index_or}
use Rattle.sparse_rows.specs.Owners.{Numbered}
use Rattle.app_topo.proofs.topo_run.entries_of.Given as goal

abbrev pub invariant-loop-x : goal.invariant-loop-x
invariant-loop-x l = l.entries.items ≡ map (λ (e : Numbered). e.1) (take l.x (slice_index_or l.parts l.rank []))
