use Rattle.std.proofs.Common.{◌≡◌, rules, subst}
use Rattle.hop_core.specs.declared.phase.Phase.TheVariants.{Complete}
use Rattle.hop_core.specs.State.{State, phase_of}
use Rattle.hop_core.specs.Standing.{IsState}
use Rattle.convey.proofs.Completes.{is_sound}
use Rattle.convey.proofs.conveyor.Conveyor.phase.Goals as goal

pub returns-clause-stands : goal.returns-clause-stands
returns-clause-stands g c =
    let now : State = c.args.self.now in
    let s : IsState now = subst IsState c.self.view_is c.phase.ensures.standing in
    let sound = is_sound now s (subst (λ (t : State). t.phase ≡ Complete → phase_of t ≡ Complete) c.self.view_is c.self.invariant.complete) in
    record { grid = search rules; rank = search rules; sound = sound; cap_is = search rules }
