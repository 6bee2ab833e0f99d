use Rattle.std.proofs.Common.{ap, ◌≡◌, ◌∙◌, false}
use Rattle.route_tensor.specs.Neighbour.{hop_to}
use Rattle.hop_core.specs.State.{State}
use Rattle.hop_core.proofs.Steps.{push_either, first_hop_out}
use Rattle.hop_core.proofs.state.RankState.push.Goals as goal

pub invariant_of-self : goal.invariant_of-self
invariant_of-self g c =
    let d : c.self.inside.done ≡ false = ap (λ (s : State). s.done) c.self.view_is ∙ c.requires.not_done in
    let h : hop_to c.self.inside.routes.dims c.first_of-step.result.out ≡ 1 = ap (λ (x : _). hop_to c.self.inside.routes.dims x.out) c.first_of-step.ensures.value ∙ first_hop_out c.self.inside.routes.dims c.args.to c.self.invariant.1.standing.grid in
    (c.self.invariant.0, push_either _ _ _ _ _ _ _ _ _ c.push.result c.self.invariant.1 c.first_of-step.ensures.below h d c.index_mut.ensures.value c.push.ensures.appended c.push.ensures.room c.push.ensures.unchanged c.entry_to-entry.ensures.fair)
