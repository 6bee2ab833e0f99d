use Rattle.std.proofs.Common.{◌≡◌, ◌<◌, false, sym, ap, subst, sum}
use Rattle.std.specs.List.{All}
use Rattle.bale_items.specs.declared.item.Entry.{Entry}
use Rattle.route_tensor.specs.Neighbour.{hop_to}
use Rattle.route_tensor.specs.Tag.{IsFair}
use Rattle.hop_core.specs.Link.{Out}
use Rattle.hop_core.specs.State.{State, out_at}
use Rattle.hop_core.proofs.Exchanging.{out_back_kept, exchanged}
use Rattle.hop_core.proofs.state.RankState.put_in_place.Goals as goal

pub invariant_of-self : goal.invariant_of-self
invariant_of-self g c =
    let k = c.self.invariant.1 in
    let q = subst (λ (s : State). c.args.number < sum s.dims) (sym c.self.view_is) c.requires.number in
    let f = subst (λ (s : State). All (λ (e : Entry). IsFair s.dims (hop_to s.dims c.args.number) e.tag) c.args.parcel.now.untaken) (sym c.self.view_is) c.requires.fair in
    let open' = subst (λ (s : State). (out_at s c.args.number).closed ≡ false) (sym c.self.view_is) (ap (λ (o : Out). o.closed) c.requires.place) in
    (c.self.invariant.0, out_back_kept _ _ _ _ _ c.args.number _ _ k q c.requires.fresh c.known.ensures.within f (exchanged _ c.args.number _ _ _ k.standing q c.index_mut.ensures.value c.exchange.ensures.state open') open')
