use Rattle.std.proofs.Common.{◌≡◌, ◌+◌, ◌*◌, map}
use Rattle.std.specs.List.{range_with_len}
use Rattle.app_topo.specs.code.TopoSent.{to_other}
use Rattle.app_topo.specs.Topos.{claims_of}
use Rattle.app_topo.proofs.lists.push_first_claims.Given as goal

abbrev pub invariant-loop-place : goal.invariant-loop-place
invariant-loop-place l = map (to_other l.ranks 2) l.outgoing.items ≡ claims_of l.ranks l.size l.numbers l.sums (map (λ k. k * l.ranks + l.rank) (range_with_len 0 l.place))
