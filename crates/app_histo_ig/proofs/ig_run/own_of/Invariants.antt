use Rattle.std.proofs.Common.{◌≡◌, [], map, take, slice_index_or}
use Rattle.app_histo_ig.specs.code.IgSent.{own_entry}
use Rattle.app_histo_ig.proofs.ig_run.own_of.Given as goal

abbrev pub invariant-loop-x : goal.invariant-loop-x
invariant-loop-x l = l.own.items ≡ map own_entry (take l.x (slice_index_or l.parts l.rank []))
