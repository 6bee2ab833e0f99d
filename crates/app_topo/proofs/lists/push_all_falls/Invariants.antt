use Rattle.std.proofs.Common.{◌≡◌, ◌==◌, take}
use Rattle.std.specs.List.{filter, flat_map}
use Rattle.app_topo.proofs.lists.push_all_falls.Given as goal

abbrev pub invariant-loop-claimed : goal.invariant-loop-claimed
invariant-loop-claimed l = l.outgoing.items ≡ flat_map (λ c. filter (λ u. u.i == c.i) l.columns) (take l.claimed-index l.came)
