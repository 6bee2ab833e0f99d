use Rattle.std.proofs.Common.{sym, subst, refl}
use Rattle.app_topo.specs.Topos.{spot}
use Rattle.app_topo.specs.laws.TopoLaws.{IsOwnItem}
use Rattle.app_topo.specs.code.TopoView.{topo_state}
use Rattle.app_topo.proofs.TopoSteps.{kept_valid}
use Rattle.app_topo.proofs.topo.Topo.enter.Goals as goal

pub invariant_of-self-2 : goal.invariant_of-self-2
invariant_of-self-2 c =
    let s = topo_state c.self.inside in
    let o : IsOwnItem s.size s.ranks s.rank c.args.item = subst (λ t. IsOwnItem t.size t.ranks t.rank c.args.item) (sym c.self.view_is) c.requires.own in
    kept_valid s _ _ _ _ _ (spot c.args.item.a c.args.item.b) _ c.self.invariant refl refl refl c.self.invariant.few (o.a_low, o.b_low) c.mark.ensures
