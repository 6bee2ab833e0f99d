use Rattle.std.proofs.Common.{sym, subst, refl, ap, length, ◌∙◌}
use Rattle.app_topo.specs.Topos.{spot}
use Rattle.app_topo.specs.laws.TopoLaws.{IsOwnItem, added_len}
use Rattle.app_topo.specs.code.TopoView.{topo_state}
use Rattle.app_topo.proofs.TopoSteps.{kept_valid, at_one, fresh_low}
use Rattle.app_topo.proofs.topo.Topo.claim.Goals as goal

pub invariant_of-self-2 : goal.invariant_of-self-2
invariant_of-self-2 c =
    let s = topo_state c.self.inside in
    let o : IsOwnItem s.size s.ranks s.rank c.args.item = subst (λ t. IsOwnItem t.size t.ranks t.rank c.args.item) (sym c.self.view_is) c.requires.own in
    kept_valid s _ _ _ _ _ (spot c.args.item.a 0) _ c.self.invariant refl refl (ap length c.add.ensures ∙ added_len c.args.ranks s.counts c.args.item.a 1)
    (fresh_low _ s.fresh _ c.self.invariant.few c.fresh_after-self-inside.ensures) (at_one s c.args.item o) c.mark.ensures
