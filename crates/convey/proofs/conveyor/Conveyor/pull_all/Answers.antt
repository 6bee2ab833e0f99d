use Rattle.std.proofs.Common.{◌≡◌, length, ap, sym, subst, ◌∙◌, arith}
use Rattle.hop_core.specs.State.{State, in_at, lowest_unread, pulls}
use Rattle.hop_core.specs.Standing.{IsState}
use Rattle.convey.specs.Buffers.{buffers_of}
use Rattle.convey.specs.Agreement.{Agrees}
use Rattle.convey.specs.Conveyors.{IsConveyor}
use Rattle.convey.proofs.Batched.{pulls_conveyor, pulls_kept, pulls_same}
use Rattle.convey.proofs.conveyor.Conveyor.pull_all.Goals as goal

pub invariant_of-self : goal.invariant_of-self
invariant_of-self g c =
    let low = ap lowest_unread c.self.view_is ∙ c.requires.lowest in
    subst (IsConveyor g.row.HOPS) (sym c.pull_all.ensures) (pulls_conveyor _ c.args.number c.known.ensures.standing low g.row.HOPS c.self.invariant _ (omega arith))

pub returns-clause-kept : goal.returns-clause-kept
returns-clause-kept g c =
    let now : State = c.args.self.now in
    let s : IsState now = subst IsState c.self.view_is c.known.ensures.standing in
    let n = length (in_at now c.args.number).parcel.untaken in
    let is : c.pull_all.new.self ≡ pulls n now = c.pull_all.ensures ∙ ap (λ (t : State). pulls (length (in_at t c.args.number).parcel.untaken) t) c.self.view_is in
    λ sent got a. subst (λ t. Agrees (buffers_of t) sent got) (sym is) (pulls_kept now c.args.number s c.requires.lowest n (omega arith) sent got a)

pub returns-clause-same : goal.returns-clause-same
returns-clause-same g c =
    let now : State = c.args.self.now in
    let s : IsState now = subst IsState c.self.view_is c.known.ensures.standing in
    let n = length (in_at now c.args.number).parcel.untaken in
    let is : c.pull_all.new.self ≡ pulls n now = c.pull_all.ensures ∙ ap (λ (t : State). pulls (length (in_at t c.args.number).parcel.untaken) t) c.self.view_is in
    subst (λ (t : State). t ≡ record now { ins = t.ins; pulled = t.pulled }) (sym is) (pulls_same now c.args.number s c.requires.lowest n)
