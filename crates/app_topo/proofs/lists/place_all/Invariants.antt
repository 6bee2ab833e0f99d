use Rattle.std.proofs.Common.{◌≡◌, ◌++◌, map, take}
use Rattle.app_topo.proofs.lists.place_all.Given as goal

abbrev pub invariant-loop-claim : goal.invariant-loop-claim
invariant-loop-claim l = l.claimed.items ≡ l.fn.claimed.items ++ map (λ u. record { level = l.level; row = u.i; column = u.j }) (take l.claim-index l.outgoing)
