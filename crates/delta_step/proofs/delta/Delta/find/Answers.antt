use Rattle.std.proofs.Common.{◌≢◌, sym, subst, ap, ◌∙◌}
use Rattle.delta_step.specs.declared.phase.Phase.TheVariants.{First}
use Rattle.delta_step.specs.Deltas.{DeltaState}
use Rattle.delta_step.specs.code.DeltaView.{delta_state}
use Rattle.delta_step.proofs.Steps.{finding_from}
use Rattle.delta_step.proofs.delta.Delta.find.Goals as goal

pub invariant_of-self-2 : goal.invariant_of-self-2
invariant_of-self-2 c =
    finding_from (delta_state c.self.inside) c.saturating_add-self-inside.result c.begin_finding.new.bucket c.announce.new.vertices c.begin_finding.new.settled.items c.swap.new.x.items
    c.self.invariant (subst (λ (s : DeltaState). s.phase ≢ First) (sym c.self.view_is) c.requires)
    c.saturating_add-self-inside.ensures c.announce.ensures.same c.begin_finding.ensures.bucket c.begin_finding.ensures.settled (ap (λ v. v.items) c.swap.ensures.x_after ∙ c.in_ok-announce.ensures.told)
