use Rattle.std.proofs.Common.{◌+◌, sym, ap, take, ◌∙◌, refl}
use Rattle.std.specs.Prelude.{slice_get}
use Rattle.item_buffer.proofs.Fronts.{next_front, empty_front, back_at}
use Rattle.item_buffer.proofs.Parts.{same_contents}
use Rattle.item_buffer.proofs.parcel.Parcel.take.Goals as goal

pub returns-in-Some-clause-first : goal.returns-in-Some-clause-first
returns-in-Some-clause-first g c =
    let v = ap (λ p. p.untaken) c.self.view_is in
    sym v ∙ next_front c.self.inside.taken (take c.self.inside.pushed c.self.inside.held.value.places.items) c.in-Some.entry (ap (λ u. slice_get u 0) v ∙ sym c.in-Some.ensures)

pub returns-in-Some-clause-counted : goal.returns-in-Some-clause-counted
returns-in-Some-clause-counted g c =
    let v = ap (λ p. p.untaken) c.self.view_is in
    same_contents _ _ _ _ _ _ _ _ _ _ refl (ap (λ p. p.last) c.self.view_is) (ap (λ p. p.epoch) c.self.view_is)
    (back_at c.self.inside.taken (take c.self.inside.pushed c.self.inside.held.value.places.items) ∙ (ap (λ u. slice_get u 0) v ∙ sym c.in-Some.ensures))
    (ap (λ p. p.taken + 1) c.self.view_is)

pub returns-in-None-clause-none : goal.returns-in-None-clause-none
returns-in-None-clause-none g c = empty_front _ (sym c.in-None.ensures)
