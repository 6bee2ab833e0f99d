use Rattle.std.proofs.Common.{sym, subst, refl, ap, length, ◌∙◌, ◌-◌, ◌^◌}
use Rattle.app_topo.specs.Topos.{spot}
use Rattle.app_topo.specs.laws.TopoLaws.{IsOwnItem, added_len}
use Rattle.app_topo.specs.code.TopoView.{topo_state}
use Rattle.app_topo.proofs.TopoSteps.{kept_valid, at_one}
use Rattle.app_topo.proofs.topo.Topo.fall.Goals as goal

pub invariant_of-self-2 : goal.invariant_of-self-2
invariant_of-self-2 c =
    let s = topo_state c.self.inside in
    let o : IsOwnItem s.size s.ranks s.rank c.args.item = subst (λ t. IsOwnItem t.size t.ranks t.rank c.args.item) (sym c.self.view_is) c.requires.own in
    kept_valid s _ _ _ _ _ (spot c.args.item.a 0) _ c.self.invariant (ap length c.lessen.ensures ∙ added_len c.args.ranks s.numbers c.args.item.a (2 ^ 64 - 1)) (ap length c.lessen-2.ensures ∙ added_len c.args.ranks s.sums c.args.item.a (2 ^ 64 - c.args.item.b))
    refl c.self.invariant.few (at_one s c.args.item o) c.mark_if.ensures
