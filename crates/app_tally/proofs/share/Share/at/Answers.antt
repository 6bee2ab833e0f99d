use Rattle.std.proofs.Common.{◌<◌, ◌≤◌, ◌+◌, ◌*◌, length, slice_get, arith, sym, ap, subst, ◌∙◌}
use Rattle.std.specs.Arc.{arc_value}
use Rattle.app_tally.proofs.Shared.{shared_inside, shared_at}
use Rattle.app_tally.proofs.share.Share.at.Goals as goal

pub overflow_mul-i : goal.overflow_mul-i
overflow_mul-i c =
    let low = shared_inside c.self.inside.ranks c.self.inside.rank c.self.inside.len c.args.i (arc_value c.self.inside.lines) c.self.invariant (subst (λ l. c.args.i < length l) (sym c.self.view_is) c.requires) in
    let few : length (arc_value c.self.inside.lines) ≤ 16_777_216 = c.self.invariant.few in
    omega arith

pub overflow_add-i : goal.overflow_add-i
overflow_add-i c =
    let low = shared_inside c.self.inside.ranks c.self.inside.rank c.self.inside.len c.args.i (arc_value c.self.inside.lines) c.self.invariant (subst (λ l. c.args.i < length l) (sym c.self.view_is) c.requires) in
    let few : length (arc_value c.self.inside.lines) ≤ 16_777_216 = c.self.invariant.few in
    omega arith

pub at-requires : goal.at-requires
at-requires c =
    subst (λ l. c.args.i * c.self.inside.ranks + c.self.inside.rank < length l) (sym c.deref.ensures)
    (shared_inside c.self.inside.ranks c.self.inside.rank c.self.inside.len c.args.i (arc_value c.self.inside.lines) c.self.invariant (subst (λ l. c.args.i < length l) (sym c.self.view_is) c.requires))

pub returns : goal.returns
returns c =
    ap (λ l. slice_get l c.args.i) (sym c.self.view_is)
    ∙ shared_at c.self.inside.ranks c.self.inside.rank c.self.inside.len c.args.i (arc_value c.self.inside.lines) c.at.result.now c.self.invariant (subst (λ l. c.args.i < length l) (sym c.self.view_is) c.requires)
    (ap (λ l. slice_get l (c.args.i * c.self.inside.ranks + c.self.inside.rank)) (sym c.deref.ensures) ∙ c.at.ensures)
