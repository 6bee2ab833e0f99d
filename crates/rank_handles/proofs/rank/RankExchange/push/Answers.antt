use Rattle.std.proofs.Common.{◌≡◌, arith, refl, sym, ap, ◌∙◌, subst, ℕ}
use Rattle.std.proofs.lemmas.Bool.{lt-ltb}
use Rattle.route_tensor.specs.Grid.{ranks}
use Rattle.port_bank.specs.Machine.Step.{Push, Idle}
use Rattle.hop_core.specs.declared.phase.Phase.TheVariants.{Working}
use Rattle.hop_core.specs.State.{State}
use Rattle.rank_handles.specs.Seated.{Seated}
use Rattle.rank_handles.specs.Answers.{push_answer}
use Rattle.rank_handles.specs.Calls.{Pushes}
use Rattle.rank_handles.specs.RankAtBank.{seat_in}
use Rattle.rank_handles.proofs.Moves.{at, moved, pushes_good, pushes_full, push_good}
use Rattle.rank_handles.proofs.Runs.{push_full}
use Rattle.rank_handles.proofs.rank.RankExchange.push.Goals.{in-Accepted, in-Full}
use Rattle.rank_handles.proofs.rank.RankExchange.push.Goals as goal

pub returns-after-push-clause-pushes : goal.returns-after-push-clause-pushes
returns-after-push-clause-pushes g c =
    let old : State = c.self.inside.conveyor in let st : State = c.push.new.self in let seat = seat_in c.self.inside.seat in let to : ℕ = c.args.to in let item = c.args.item in
    let same = c.push.ensures.same in let agrees = c.self.invariant.at_bank.agrees in
    let working : old.phase ≡ Working = sym c.phase.ensures.value ∙ c.in-Working.is in
    let phase : st.phase ≡ Working = ap (λ (z : State). z.phase) same ∙ working in
    let rank = lt-ltb to (ranks old.dims) (omega (arith, c.if-to-self.false, c.self.invariant.count_is)) in
    subst (λ (z : Seated). Pushes item to z (at seat st)) c.self.view_is (elim c.match-push.branch [
      | in-Accepted w ↦ pushes_good item to (at seat old) (at seat st) (push_good (at seat old) to working rank (omega (arith, (c.push.ensures.accepted w.in-Accepted.is).room, c.phase.ensures.stands.cap_is))) refl
          (moved seat old st (Push to item) Working agrees (c.push.ensures.accepted w.in-Accepted.is).step phase (ap (λ (z : State). z.rank) same) (ap (λ (z : State). z.dims) same))
      | in-Full w ↦ pushes_full item to (at seat old) (at seat st) (push_full (at seat old) to working rank (omega (arith, (c.push.ensures.full w.in-Full.is).full, c.phase.ensures.stands.cap_is)))
          (ap (λ (z : State). push_answer (at seat z) to) (c.push.ensures.full w.in-Full.is).state ∙ push_full (at seat old) to working rank (omega (arith, (c.push.ensures.full w.in-Full.is).full, c.phase.ensures.stands.cap_is))) refl
          (moved seat old st Idle Working agrees (c.push.ensures.full w.in-Full.is).step phase (ap (λ (z : State). z.rank) same) (ap (λ (z : State). z.dims) same))
    ])
