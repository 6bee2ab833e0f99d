use Rattle.std.proofs.Common.{◌≡◌, None, sym, subst, ◌∙◌, ap}
use Rattle.hop_core.specs.declared.phase.Phase.TheVariants.{Working}
use Rattle.hop_core.specs.State.{State}
use Rattle.convey.specs.Buffers.{buffers_of}
use Rattle.convey.specs.Agreement.{Agrees}
use Rattle.convey.proofs.Advances.{settled_agrees}
use Rattle.convey.proofs.conveyor.Conveyor.begin.Goals as goal

pub returns-clause-kept : goal.returns-clause-kept
returns-clause-kept g c =
    let e : c.begin.new.self ≡ record c.args.self.now { phase = Working; pulled = None } = c.begin.ensures ∙ ap (λ (t : State). let u : State = record t { phase = Working; pulled = None } in u) c.self.view_is in
    λ sent got a. subst (λ t. Agrees (buffers_of t) sent got) (sym e) (settled_agrees c.args.self.now Working sent got a)
