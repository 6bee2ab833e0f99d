use Rattle.std.proofs.Common.{◌≡◌, ◌∙◌, ◌<◌, false, true, None, sym, ap, subst, sum, arith}
use Rattle.route_tensor.specs.Neighbour.{hop_to}
use Rattle.item_buffer.specs.Contents.{blank}
use Rattle.hop_core.specs.Link.{Out, no_out}
use Rattle.hop_core.specs.State.{State, out_at, at_end}
use Rattle.hop_core.proofs.Counts.{some_fails}
use Rattle.hop_core.proofs.Exchanging.{closed_kept}
use Rattle.hop_core.proofs.Standing.{out_here, out_of}
use Rattle.hop_core.proofs.state.RankState.close.Goals as goal

pub overflow_sub-self : goal.overflow_sub-self
overflow_sub-self g c =
    let k = c.self.invariant.1 in
    let q = subst (λ (s : State). c.args.number < sum s.dims) (sym c.self.view_is) c.requires.number in
    let open' = subst (λ (s : State). (out_at s c.args.number).closed ≡ false) (sym c.self.view_is) (ap (λ (o : Out). o.closed) c.requires.place) in
    let some = some_fails (λ (y : Out). y.closed) c.self.inside.outs.items c.args.number no_out (omega (arith, q, k.standing.all_outs)) open' in
    omega (arith, some, k.open_is)

pub invariant_of-self : goal.invariant_of-self
invariant_of-self g c =
    let k = c.self.invariant.1 in
    let q = subst (λ (s : State). c.args.number < sum s.dims) (sym c.self.view_is) c.requires.number in
    let place = subst (λ (s : State). out_at s c.args.number ≡ out_of (blank s.epoch) false) (sym c.self.view_is) c.requires.place in
    let ended = subst (λ (s : State). at_end s.dims s.ins s.done (hop_to s.dims c.args.number) ≡ true) (sym c.self.view_is) c.requires.ended in
    let none = subst (λ (s : State). s.pulled ≡ None) (sym c.self.view_is) c.requires.pulled in
    let wrote = c.close.ensures ∙ ap (λ (o : Out). out_of o.parcel true) (out_here _ _ _ k.standing q c.index_mut.ensures.value) in
    (c.self.invariant.0, closed_kept _ _ _ _ _ c.args.number _ k q place ended none wrote)
