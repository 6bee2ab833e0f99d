use Rattle.std.proofs.Common.{◌≢◌, sym, subst, ap, ◌∙◌, ◌++◌}
use Rattle.least_walks.specs.Tables.{offers_by_place}
use Rattle.delta_step.specs.declared.phase.Phase.TheVariants.{First}
use Rattle.delta_step.specs.Deltas.{DeltaState}
use Rattle.delta_step.specs.code.DeltaView.{delta_state}
use Rattle.delta_step.proofs.Steps.{active_in, map_len, taken_settled, activated_from}
use Rattle.delta_step.proofs.delta.Delta.activate.Goals as goal

pub put_offers-requires-clause-edges : goal.put_offers-requires-clause-edges
put_offers-requires-clause-edges c =
    active_in (delta_state c.self.inside) c.deref-2.result.now _ (c.deref-2.ensures.value ∙ c.in_ok-active.ensures.places)
    (c.self.invariant.light_kept (subst (λ (s : DeltaState). s.phase ≢ First) (sym c.self.view_is) c.requires))

pub put_offers-requires-clause-weights : goal.put_offers-requires-clause-weights
put_offers-requires-clause-weights c =
    active_in (delta_state c.self.inside) c.deref-2.result.now _ (c.deref-2.ensures.value ∙ c.in_ok-active.ensures.places)
    (map_len (delta_state c.self.inside) c.take_bucket.new.self c.in_ok-active.ensures.calm.ok)

pub invariant_of-self-in_err-put_offers : goal.invariant_of-self-in_err-put_offers
invariant_of-self-in_err-put_offers c =
    taken_settled (delta_state c.self.inside) c.take_bucket.new.self c.extend_from_slice.new.self.items c.in_ok-active.active.items c.self.invariant
    c.in_ok-active.ensures.calm.ok c.in_ok-active.ensures.places (c.in_ok-extend_from_slice.ensures.items ∙ ap (λ ps. c.self.inside.settled.items ++ ps) c.deref.ensures.value)

pub invariant_of-self-2 : goal.invariant_of-self-2
invariant_of-self-2 c =
    activated_from (delta_state c.self.inside) c.saturating_add-self-inside.result c.take_bucket.new.self c.extend_from_slice.new.self.items c.in_ok-active.active.items c.swap.new.x.items
    c.self.invariant (subst (λ (s : DeltaState). s.phase ≢ First) (sym c.self.view_is) c.requires)
    c.saturating_add-self-inside.ensures c.in_ok-active.ensures.calm.ok c.in_ok-active.ensures.places
    (c.in_ok-extend_from_slice.ensures.items ∙ ap (λ ps. c.self.inside.settled.items ++ ps) c.deref.ensures.value)
    (ap (λ v. v.items) c.swap.ensures.x_after ∙ c.in_ok-put_offers.ensures ∙ ap (offers_by_place c.self.inside.light c.take_bucket.new.self) c.deref-2.ensures.value)
