use Rattle.std.proofs.Common.{arith, sym, ap, ◌∙◌}
use Rattle.hop_core.specs.State.{State}
use Rattle.rank_handles.proofs.Runs.{pulls_phase}
use Rattle.rank_handles.proofs.many.pull_over.Goals as goal

pub pull-requires : goal.pull-requires
pull-requires g c = (omega arith, λ e. c.requires.begun (sym (ap (λ (z : State). z.phase) c.loop-at.invariant.1 ∙ pulls_phase c.loop-at.at c.args.conveyor.now) ∙ e))
