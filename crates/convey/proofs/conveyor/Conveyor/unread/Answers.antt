use Rattle.std.proofs.Common.{◌≡◌, None, sym, ap, subst, ◌∙◌}
use Rattle.hop_core.specs.State.{State, lowest_unread}
use Rattle.hop_core.specs.Standing.{IsState}
use Rattle.port_bank.specs.Machine.{IsOwnStep}
use Rattle.port_bank.specs.Machine.Step.{Idle}
use Rattle.convey.specs.Buffers.{buffers_of}
use Rattle.convey.specs.Agreement.{Agrees}
use Rattle.convey.specs.Parts.{part_of}
use Rattle.convey.specs.Conveyors.{IsConveyor}
use Rattle.convey.proofs.Pulls.{none_unread}
use Rattle.convey.proofs.Pushes.{idle_step, idle_agrees}
use Rattle.convey.proofs.Batched.{calm_conveyor}
use Rattle.convey.proofs.conveyor.Conveyor.unread.Goals as goal

pub invariant_of-self : goal.invariant_of-self
invariant_of-self g c = subst (IsConveyor g.row.HOPS) (sym c.unread.ensures.state) (calm_conveyor g.row.HOPS _ c.self.invariant)

pub returns-clause-none_unread : goal.returns-clause-none_unread
returns-clause-none_unread g c =
    let now : State = c.args.self.now in
    let s : IsState now = subst IsState c.self.view_is c.known.ensures.standing in
    λ r. none_unread now s (ap lowest_unread (sym c.self.view_is) ∙ (sym c.unread.ensures.value ∙ r))

pub returns-clause-kept : goal.returns-clause-kept
returns-clause-kept g c =
    let now : State = c.args.self.now in
    let e : c.unread.new.self ≡ record now { pulled = None } = c.unread.ensures.state ∙ ap (λ (t : State). record t { pulled = None }) c.self.view_is in
    λ sent got a. subst (λ t. Agrees (buffers_of t) sent got) (sym e) (idle_agrees now sent got a)

pub returns-clause-step : goal.returns-clause-step
returns-clause-step g c =
    let now : State = c.args.self.now in
    let e : c.unread.new.self ≡ record now { pulled = None } = c.unread.ensures.state ∙ ap (λ (t : State). record t { pulled = None }) c.self.view_is in
    λ sent got a. subst (λ t. IsOwnStep Idle (part_of (buffers_of now) sent got) (part_of (buffers_of t) sent got)) (sym e) (idle_step now sent got)
