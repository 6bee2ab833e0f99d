use Rattle.std.proofs.Common.{◌<◌, sym, subst}
use Rattle.delta_step.specs.code.DeltaView.{delta_state}
use Rattle.delta_step.specs.Deltas.{DeltaState}
use Rattle.delta_step.proofs.Steps.{came_valid}
use Rattle.delta_step.proofs.delta.Delta.take_edge.Goals as goal

pub invariant_of-self-2 : goal.invariant_of-self-2
invariant_of-self-2 c =
    came_valid (delta_state c.self.inside) _ c.raise.new.self c.self.invariant
    (subst (λ (s : DeltaState). c.args.item.a < s.rows) (sym c.self.view_is) c.requires.row) (subst (λ (s : DeltaState). c.args.item.b < s.rows) (sym c.self.view_is) c.requires.col) c.in_ok-raise.ensures.ok
