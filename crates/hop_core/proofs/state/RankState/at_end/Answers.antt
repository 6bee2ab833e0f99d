use Rattle.std.proofs.Common.{◌≡◌, ◌∙◌, ◌<◌, ◌≤◌, ◌-◌, sum, sym, ap, subst, arith, false, get_or}
use Rattle.route_tensor.specs.Neighbour.{hop_to}
use Rattle.route_tensor.proofs.Neighbours.{hop_to_has}
use Rattle.hop_core.specs.State.{State, at_end}
use Rattle.hop_core.proofs.Marks.{at_end-first}
use Rattle.hop_core.proofs.state.RankState.at_end.Goals as goal

pub returns-then-hop-eq1 : goal.returns-then-hop-eq1
returns-then-hop-eq1 g c =
    let hop : 1 ≡ hop_to c.self.inside.routes.dims c.args.number = sym c.if-hop-eq1.true ∙ ap (λ n. n.hop) c.neighbour-hop.ensures.value in
    subst (λ (s : State). c.self.inside.done ≡ at_end s.dims s.ins s.done (hop_to s.dims c.args.number)) c.self.view_is
    (sym (at_end-first c.self.inside.routes.dims c.self.inside.ins.items c.self.inside.done) ∙ ap (at_end c.self.inside.routes.dims c.self.inside.ins.items c.self.inside.done) hop)

pub returns-else-hop-eq1 : goal.returns-else-hop-eq1
returns-else-hop-eq1 g c =
    let hop : c.neighbour-hop.result.hop ≡ hop_to c.self.inside.routes.dims c.args.number = ap (λ n. n.hop) c.neighbour-hop.ensures.value in
    let two : 2 ≤ c.neighbour-hop.result.hop = omega (arith, c.if-hop-eq1.false, c.neighbour-hop.ensures.first_hop) in
    subst (λ (s : State). get_or c.self.inside.ends (c.neighbour-hop.result.hop - 1) false ≡ at_end s.dims s.ins s.done (hop_to s.dims c.args.number)) c.self.view_is
    (c.self.invariant.1.ends_each c.neighbour-hop.result.hop false two c.neighbour-hop.ensures.last_hop ∙ ap (at_end c.self.inside.routes.dims c.self.inside.ins.items c.self.inside.done) hop)

pub returns-then-this-eq1 : goal.returns-then-this-eq1
returns-then-this-eq1 g c =
    let q = subst (λ (s : State). c.args.number < sum s.dims) (sym c.self.view_is) c.requires in
    let r = hop_to_has c.self.inside.routes.dims c.args.number q in
    let hop : 1 ≡ hop_to c.self.inside.routes.dims c.args.number = omega (arith, r.first, r.last, c.self.invariant.0, c.if-this-eq1.true) in
    subst (λ (s : State). c.self.inside.done ≡ at_end s.dims s.ins s.done (hop_to s.dims c.args.number)) c.self.view_is
    (sym (at_end-first c.self.inside.routes.dims c.self.inside.ins.items c.self.inside.done) ∙ ap (at_end c.self.inside.routes.dims c.self.inside.ins.items c.self.inside.done) hop)
