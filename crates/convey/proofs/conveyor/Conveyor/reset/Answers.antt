use Rattle.std.proofs.Common.{◌≡◌, sym, ap, subst, ◌∙◌}
use Rattle.hop_core.specs.declared.phase.Phase.TheVariants.{Dormant, Complete}
use Rattle.hop_core.specs.State.{State, phase_of}
use Rattle.hop_core.specs.Standing.{IsState}
use Rattle.port_bank.specs.Machine.{IsOwnStep}
use Rattle.port_bank.specs.Machine.Step.{Reset}
use Rattle.convey.specs.Buffers.{buffers_of}
use Rattle.convey.specs.Agreement.{Agrees}
use Rattle.convey.specs.Parts.{part_of}
use Rattle.convey.proofs.Completes.{is_over}
use Rattle.convey.proofs.Pushes.{reset_state, resets_agree, resets_step}
use Rattle.convey.proofs.conveyor.Conveyor.reset.Goals as goal

pub returns-clause-kept : goal.returns-clause-kept
returns-clause-kept g c =
    let now : State = c.args.self.now in
    let s : IsState now = subst IsState c.self.view_is c.known.ensures.standing in
    let h : phase_of now ≡ Complete = subst (λ (t : State). t.phase ≡ Complete → phase_of t ≡ Complete) c.self.view_is c.self.invariant.complete c.requires.complete in
    let again : State → State = λ t. reset_state t Dormant in
    λ sent got a. subst (λ t. Agrees (buffers_of t) sent got) (sym (c.reset.ensures ∙ ap again c.self.view_is)) (resets_agree now s (is_over now s h) sent got a)

pub returns-clause-step : goal.returns-clause-step
returns-clause-step g c =
    let now : State = c.args.self.now in
    let s : IsState now = subst IsState c.self.view_is c.known.ensures.standing in
    let h : phase_of now ≡ Complete = subst (λ (t : State). t.phase ≡ Complete → phase_of t ≡ Complete) c.self.view_is c.self.invariant.complete c.requires.complete in
    let again : State → State = λ t. reset_state t Dormant in
    λ sent got a. subst (λ t. IsOwnStep Reset (part_of (buffers_of now) sent got) (part_of (buffers_of t) sent got)) (sym (c.reset.ensures ∙ ap again c.self.view_is))
    (resets_step now s (is_over now s h) c.requires.complete sent got a)
