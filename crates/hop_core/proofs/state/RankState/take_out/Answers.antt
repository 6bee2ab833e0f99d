use Rattle.std.proofs.Common.{◌≡◌, ◌<◌, true, sym, subst, sum}
use Rattle.hop_core.specs.Link.{is_due}
use Rattle.route_tensor.specs.Neighbour.{hop_to}
use Rattle.hop_core.specs.State.{State, out_at, at_end}
use Rattle.hop_core.proofs.Exchanging.{out_lent_kept, exchanged}
use Rattle.hop_core.proofs.Standing.{due_here}
use Rattle.hop_core.proofs.state.RankState.take_out.Goals as goal

pub invariant_of-self-2 : goal.invariant_of-self-2
invariant_of-self-2 g c =
    let k = c.self.invariant.1 in
    let q = subst (λ (s : State). c.args.number < sum s.dims) (sym c.self.view_is) c.requires.number in
    let d = subst (λ (s : State). is_due s.cap s.steady (at_end s.dims s.ins s.done (hop_to s.dims c.args.number)) (out_at s c.args.number) ≡ true) (sym c.self.view_is) c.requires.due in
    let was = due_here _ c.args.number k.standing q d in
    (c.self.invariant.0, out_lent_kept _ _ _ _ _ c.args.number _ _ _ _ k q c.requires.empty (exchanged _ c.args.number _ _ _ k.standing q c.index_mut.ensures.value c.exchange.ensures.state was) was)
