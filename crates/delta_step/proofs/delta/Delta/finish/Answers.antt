use Rattle.std.proofs.Common.{◌≢◌, refl, sym, subst, ap, ◌∙◌}
use Rattle.least_walks.specs.Tables.{offers_by_place}
use Rattle.delta_step.specs.declared.phase.Phase.TheVariants.{First}
use Rattle.delta_step.specs.Deltas.{DeltaState, ascending}
use Rattle.delta_step.specs.code.DeltaView.{delta_state}
use Rattle.delta_step.proofs.Steps.{settled_in, settled_valid, finished_from}
use Rattle.delta_step.proofs.delta.Delta.finish.Goals as goal

pub put_offers-requires-clause-edges : goal.put_offers-requires-clause-edges
put_offers-requires-clause-edges c =
    settled_in (delta_state c.self.inside) c.deref.result.now _ (c.deref.ensures.value ∙ c.put_in_order.ensures ∙ ap (λ n. ascending n c.self.inside.settled.items) c.len.ensures)
    (c.self.invariant.heavy_kept (subst (λ (s : DeltaState). s.phase ≢ First) (sym c.self.view_is) c.requires))

pub put_offers-requires-clause-weights : goal.put_offers-requires-clause-weights
put_offers-requires-clause-weights c =
    settled_in (delta_state c.self.inside) c.deref.result.now _ (c.deref.ensures.value ∙ c.put_in_order.ensures ∙ ap (λ n. ascending n c.self.inside.settled.items) c.len.ensures) refl

pub invariant_of-self : goal.invariant_of-self
invariant_of-self c =
    settled_valid (delta_state c.self.inside) c.put_in_order.new.places.items c.self.invariant
    (settled_in (delta_state c.self.inside) c.put_in_order.new.places.items _ (c.put_in_order.ensures ∙ ap (λ n. ascending n c.self.inside.settled.items) c.len.ensures) refl)

pub invariant_of-self-2 : goal.invariant_of-self-2
invariant_of-self-2 c =
    finished_from (delta_state c.self.inside) c.saturating_add-self-inside.result c.put_in_order.new.places.items c.swap.new.x.items
    c.self.invariant (subst (λ (s : DeltaState). s.phase ≢ First) (sym c.self.view_is) c.requires)
    c.saturating_add-self-inside.ensures (c.put_in_order.ensures ∙ ap (λ n. ascending n c.self.inside.settled.items) c.len.ensures)
    (ap (λ v. v.items) c.swap.ensures.x_after ∙ c.in_ok-put_offers.ensures ∙ ap (offers_by_place c.self.inside.heavy c.self.inside.vertices) c.deref.ensures.value)
