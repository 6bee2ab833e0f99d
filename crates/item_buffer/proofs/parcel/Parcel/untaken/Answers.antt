use Rattle.std.proofs.Common.{◌-◌, take, drop, ap, ◌∙◌}
use Rattle.item_buffer.proofs.Fronts.{between}
use Rattle.item_buffer.proofs.parcel.Parcel.untaken.Goals as goal

pub returns : goal.returns
returns g c =
    ap (λ xs. take (c.self.inside.pushed - c.self.inside.taken) (drop c.self.inside.taken xs)) (c.as_slice.ensures.value ∙ ap (λ v. v.places.items) c.deref.ensures)
    ∙ (between c.self.inside.taken c.self.inside.pushed c.self.inside.held.value.places.items c.self.invariant.3 ∙ ap (λ p. p.untaken) c.self.view_is)
