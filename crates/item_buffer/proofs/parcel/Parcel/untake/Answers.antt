use Rattle.std.proofs.Common.{◌-◌, ◌∷◌, ap, take, ◌∙◌, refl}
use Rattle.item_buffer.proofs.Fronts.{front_before, had_back}
use Rattle.item_buffer.proofs.Parts.{same_contents}
use Rattle.item_buffer.proofs.parcel.Parcel.untake.Goals as goal

pub returns : goal.returns
returns g c =
    λ e h.
    let back = had_back _ _ e (ap (λ p. p.back) c.self.view_is ∙ h) in
    same_contents _ _ _ _ _ _ _ _ _ _
    (front_before c.self.inside.taken (take c.self.inside.pushed c.self.inside.held.value.places.items) e (c.self.invariant.4 back.0) back.1 ∙ ap (λ p. e ∷ p.untaken) c.self.view_is)
    (ap (λ p. p.last) c.self.view_is) (ap (λ p. p.epoch) c.self.view_is) refl (ap (λ p. p.taken - 1) c.self.view_is)
