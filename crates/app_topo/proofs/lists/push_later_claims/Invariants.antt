use Rattle.std.proofs.Common.{◌≡◌, map, take}
use Rattle.app_topo.specs.code.TopoSent.{to_other}
use Rattle.app_topo.specs.Topos.{claims_of}
use Rattle.app_topo.proofs.lists.push_later_claims.Given as goal

abbrev pub invariant-loop-row : goal.invariant-loop-row
invariant-loop-row l = map (to_other l.ranks 2) l.outgoing.items ≡ claims_of l.ranks l.size l.numbers l.sums (map (λ u. u.i) (take l.row-index l.came))
