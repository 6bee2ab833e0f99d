use Rattle.std.proofs.Common.{◌≡◌, ◌<◌, ◌⊎◌, length, None, inl, inr, refl, sym, ap, subst, ◌∙◌}
use Rattle.hop_core.specs.declared.phase.Pushed.{Pushed}
use Rattle.hop_core.specs.declared.phase.Pushed.TheVariants.{Accepted, Full}
use Rattle.route_tensor.specs.Grid.{coord}
use Rattle.hop_core.specs.State.{State, out_at, with_pushed}
use Rattle.hop_core.specs.Standing.{IsState}
use Rattle.port_bank.specs.Machine.{IsOwnStep}
use Rattle.port_bank.specs.Machine.Step.{Push, Idle}
use Rattle.convey.specs.Buffers.{buffers_of}
use Rattle.convey.specs.Conveyors.{open_count_toward}
use Rattle.convey.specs.Agreement.{Agrees}
use Rattle.convey.specs.Parts.{part_of}
use Rattle.convey.proofs.Pushes.{pushed_agrees, pushed_step, standing_index, idle_agrees, idle_step}
use Rattle.convey.proofs.conveyor.Conveyor.push.Goals as goal

which : (p : Pushed) → (p ≡ Accepted) ⊎ (p ≡ Full)
which Accepted = inl refl
which Full = inr refl

pub returns-clause-accepted : goal.returns-clause-accepted
returns-clause-accepted g c =
    let now : State = c.args.self.now in
    let s : IsState now = subst IsState c.self.view_is c.known.ensures.standing in
    let cap : now.cap ≡ g.row.CAP = subst (λ (t : State). t.cap ≡ g.row.CAP) c.self.view_is c.known.ensures.cap in
    let put : State → State = λ t. with_pushed c.args.item c.args.to t in
    λ r.
    let is = c.push.ensures.accepted r ∙ ap put c.self.view_is in
    record {
      room = subst (λ n. open_count_toward now c.args.to < n) cap (subst (λ n. n < now.cap) (standing_index now c.args.to c.args.item s c.requires.to) (subst (λ (t : State). length (out_at t (coord t.dims c.args.to 1)).parcel.untaken < t.cap) c.self.view_is (c.push.ensures.room r)));
      state = is;
      step = λ sent got a. subst (λ t. IsOwnStep (Push c.args.to c.args.item) (part_of (buffers_of now) sent got) (part_of (buffers_of t) sent got)) (sym is)
          (pushed_step now c.args.to c.args.item s c.requires.to c.requires.not_done sent got a);
    }

pub returns-clause-full : goal.returns-clause-full
returns-clause-full g c =
    let now : State = c.args.self.now in
    let s : IsState now = subst IsState c.self.view_is c.known.ensures.standing in
    let cap : now.cap ≡ g.row.CAP = subst (λ (t : State). t.cap ≡ g.row.CAP) c.self.view_is c.known.ensures.cap in
    let calm : State → State = λ t. record t { pulled = None } in
    λ r.
    let is = c.push.ensures.unchanged r ∙ ap calm c.self.view_is in
    record {
      full = sym (standing_index now c.args.to c.args.item s c.requires.to) ∙ subst (λ (t : State). length (out_at t (coord t.dims c.args.to 1)).parcel.untaken ≡ t.cap) c.self.view_is (c.push.ensures.full r) ∙ cap;
      state = is;
      step = λ sent got a. subst (λ t. IsOwnStep Idle (part_of (buffers_of now) sent got) (part_of (buffers_of t) sent got)) (sym is) (idle_step now sent got);
    }

pub returns-clause-kept : goal.returns-clause-kept
returns-clause-kept g c =
    let now : State = c.args.self.now in
    let s : IsState now = subst IsState c.self.view_is c.known.ensures.standing in
    let put : State → State = λ t. with_pushed c.args.item c.args.to t in
    let calm : State → State = λ t. record t { pulled = None } in
    λ sent got a. elim (which c.push.result) [
      | inl r ↦ subst (λ t. Agrees (buffers_of t) sent got) (sym (c.push.ensures.accepted r ∙ ap put c.self.view_is)) (pushed_agrees now c.args.to c.args.item s c.requires.to sent got a)
      | inr r ↦ subst (λ t. Agrees (buffers_of t) sent got) (sym (c.push.ensures.unchanged r ∙ ap calm c.self.view_is)) (idle_agrees now sent got a)
    ]
