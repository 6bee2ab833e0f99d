use Rattle.std.proofs.Common.{arith, refl, sym, ap, ◌∙◌, ◌^◌, nat_lt, subst}
use Rattle.std.proofs.lemmas.Bool.{lt-ltb}
use Rattle.port_bank.specs.Machine.Step.{Reset}
use Rattle.hop_core.specs.declared.phase.Phase.TheVariants.{Dormant}
use Rattle.hop_core.specs.State.{State}
use Rattle.rank_handles.specs.Seated.{Seated}
use Rattle.rank_handles.specs.Calls.{Resets}
use Rattle.rank_handles.specs.RankAtBank.{seat_in}
use Rattle.rank_handles.proofs.Moves.{at, moved, resets_good, ended_good}
use Rattle.rank_handles.proofs.rank.RankExchange.reset.Goals as goal

pub returns-else-self-clause-resets : goal.returns-else-self-clause-resets
returns-else-self-clause-resets g c =
    let old : State = c.self.inside.conveyor in let st : State = c.reset.new.self in let seat = seat_in c.self.inside.seat in let is = c.reset.ensures.state in
    let good = ended_good old.phase (nat_lt old.epoch (2 ^ 63)) (sym c.phase.ensures.value ∙ c.in-Complete.is) (lt-ltb old.epoch (2 ^ 63) (omega (arith, c.if-self.false, c.self.invariant.epoch_is))) in
    subst (λ (z : Seated). Resets z (at seat st)) c.self.view_is (resets_good (at seat old) (at seat st) good refl
    (moved seat old st Reset Dormant c.self.invariant.at_bank.agrees c.reset.ensures.step
    (ap (λ (z : State). z.phase) is) (ap (λ (z : State). z.rank) is) (ap (λ (z : State). z.dims) is)))
