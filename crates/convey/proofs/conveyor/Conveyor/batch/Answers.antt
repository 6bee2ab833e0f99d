use Rattle.std.proofs.Common.{length, arith, ap, sym, subst, ◌∙◌}
use Rattle.std.specs.Prelude.{slice_get}
use Rattle.hop_core.specs.State.{State, in_at, lowest_unread}
use Rattle.hop_core.specs.Standing.{IsState}
use Rattle.hop_core.proofs.Unread.{unread_at}
use Rattle.hop_core.proofs.Batches.{some_left}
use Rattle.convey.proofs.Batched.{gives_next}
use Rattle.convey.proofs.conveyor.Conveyor.batch.Goals as goal

pub returns-clause-gives : goal.returns-clause-gives
returns-clause-gives g c = λ n e h.
    let now : State = c.args.self.now in
    let s : IsState now = subst IsState c.self.view_is c.known.ensures.standing in
    let value = c.batch.ensures.value ∙ ap (λ (t : State). (in_at t c.args.number).parcel.untaken) c.self.view_is in
    gives_next now c.args.number s c.requires.lowest n e (ap (λ es. slice_get es n) (sym value) ∙ h)

pub returns-clause-some : goal.returns-clause-some
returns-clause-some g c =
    let s = c.known.ensures.standing in
    let u = unread_at _ c.args.number s (ap lowest_unread c.self.view_is ∙ c.requires.lowest) in
    omega (arith, ap length c.batch.ensures.value, some_left _ u.some)
