use Rattle.std.proofs.Common.{◌≡◌, ◌∙◌, ◌<◌, true, sym, subst, sum}
use Rattle.route_tensor.specs.Ends.{hop_at}
use Rattle.route_tensor.specs.Neighbour.{hop_to, out_index}
use Rattle.hop_core.specs.Link.{is_due}
use Rattle.hop_core.specs.State.{State, out_at, at_end}
use Rattle.hop_core.proofs.Exchanging.{out_lent_kept, exchanged}
use Rattle.hop_core.proofs.Standing.{due_here}
use Rattle.hop_core.proofs.state.RankState.lend_out.Goals as goal

pub invariant_of-self : goal.invariant_of-self
invariant_of-self g c =
    let k = c.self-2.invariant.1 in
    let e = c.self-2.view_is ∙ c.take_spare-parcel.ensures.state in
    let st = c.args.self.now in
    let number = c.number_to-number.result in
    let below : number < sum st.dims = subst (λ (s : State). number < sum s.dims) c.self.view_is c.number_to-number.ensures.below in
    let is : number ≡ out_index st.dims c.args.link = subst (λ (s : State). number ≡ out_index s.dims c.args.link) c.self.view_is c.number_to-number.ensures.value in
    let hop : hop_to st.dims number ≡ hop_at st.dims c.args.link = subst (λ (s : State). hop_to s.dims number ≡ hop_at s.dims c.args.link) c.self.view_is c.number_to-number.ensures.hop in
    let here = subst (λ i. is_due st.cap st.steady (at_end st.dims st.ins st.done (hop_at st.dims c.args.link)) (out_at st i) ≡ true) (sym is) c.requires.due in
    let due = subst (λ h. is_due st.cap st.steady (at_end st.dims st.ins st.done h) (out_at st number) ≡ true) (sym hop) here in
    let q = subst (λ (s : State). number < sum s.dims) (sym e) below in
    let d = subst (λ (s : State). is_due s.cap s.steady (at_end s.dims s.ins s.done (hop_to s.dims number)) (out_at s number) ≡ true) (sym e) due in
    let was = due_here _ number k.standing q d in
    (c.self-2.invariant.0, out_lent_kept _ _ _ _ _ number _ _ _ _ k q c.take_spare-parcel.ensures.parcel (exchanged _ number _ _ _ k.standing q c.index_mut.ensures.value c.exchange.ensures.state was) was)
