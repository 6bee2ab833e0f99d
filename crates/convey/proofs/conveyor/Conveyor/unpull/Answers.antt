use Rattle.std.proofs.Common.{◌≡◌, is_some, refl, sym, ap, subst, ◌∙◌}
use Rattle.hop_core.specs.State.{State, after_unpull}
use Rattle.hop_core.specs.Standing.{IsState}
use Rattle.port_bank.specs.Machine.{IsOwnStep}
use Rattle.port_bank.specs.Machine.Step.{Unpull}
use Rattle.convey.specs.Buffers.{buffers_of}
use Rattle.convey.specs.Agreement.{Agrees}
use Rattle.convey.specs.Parts.{part_of}
use Rattle.convey.proofs.Pulls.{unpulled_kept, unpulled_some}
use Rattle.convey.proofs.conveyor.Conveyor.unpull.Goals as goal

pub returns-clause-kept : goal.returns-clause-kept
returns-clause-kept g c =
    let now : State = c.args.self.now in
    let s : IsState now = subst IsState c.self.view_is c.known.ensures.standing in
    let back : State → State = λ t. after_unpull t t.pulled in
    let e : c.unpull.new.self ≡ after_unpull now now.pulled = c.unpull.ensures.state ∙ ap back c.self.view_is in
    let v : c.unpull.result ≡ is_some now.pulled = c.unpull.ensures.value ∙ ap (λ (t : State). is_some t.pulled) c.self.view_is in
    λ sent got a. subst (λ t. Agrees (buffers_of t) sent got) (sym e) (unpulled_kept now now.pulled refl s sent got a)

pub returns-clause-step_back : goal.returns-clause-step_back
returns-clause-step_back g c =
    let now : State = c.args.self.now in
    let s : IsState now = subst IsState c.self.view_is c.known.ensures.standing in
    let back : State → State = λ t. after_unpull t t.pulled in
    let e : c.unpull.new.self ≡ after_unpull now now.pulled = c.unpull.ensures.state ∙ ap back c.self.view_is in
    let v : c.unpull.result ≡ is_some now.pulled = c.unpull.ensures.value ∙ ap (λ (t : State). is_some t.pulled) c.self.view_is in
    λ r sent got a. subst (λ t. IsOwnStep Unpull (part_of (buffers_of now) sent got) (part_of (buffers_of t) sent got)) (sym e) (unpulled_some now now.pulled refl s (sym v ∙ r) sent got a)
