use Rattle.std.proofs.Common.{◌≡◌, ◌≢◌, true, false, ◌++◌, ℕ, List, length, refl, sym, ap, ◌∙◌, subst}
use Rattle.port_bank.specs.Machine.Step.{Pull}
use denote.Enum.Bare.{sameb}
use Rattle.hop_core.specs.contracts.phase.Phase.{the_type}
use Rattle.hop_core.specs.declared.phase.Phase.{Phase}
use Rattle.hop_core.specs.declared.phase.Phase.TheVariants.{Dormant}
use Rattle.hop_core.specs.State.{State}
use Rattle.rank_handles.specs.Seated.{Seated}
use Rattle.rank_handles.specs.Many.{steps_of, then_idle, PullsMany}
use Rattle.rank_handles.specs.RankAtBank.{seat_in}
use Rattle.rank_handles.proofs.Moves.{at, begun_good}
use Rattle.rank_handles.proofs.Runs.{ran_of, pull_none}
use Rattle.rank_handles.proofs.rank.RankExchange.pull_many.Goals as goal

pub returns-clause-pulls : goal.returns-clause-pulls
unfolding PullsMany
returns-clause-pulls g c =
    let a : State = c.self.inside.conveyor in let b : State = c.pull_while_some.new.conveyor in let seat = seat_in c.self.inside.seat in
    let items = c.pull_while_some.new.items in let from : List ℕ = c.pull_while_some.new.from in let n : ℕ = c.pull_while_some.result in let most : ℕ = length c.args.items.now in
    let begun : a.phase ≢ Dormant = λ e. absurd (let same : false ≡ true = sym c.if-eq.false ∙ (c.eq.ensures ∙ ap (λ (p : Phase). sameb the_type p Dormant) (c.phase.ensures.value ∙ e)) in cc) in let phase : b.phase ≡ a.phase = ap (λ (z : State). z.phase) c.pull_while_some.ensures.pulled.same in
    let ran = ran_of seat (steps_of Pull n items from ++ then_idle n most) a b c.self.invariant.at_bank.agrees c.pull_while_some.ensures.pulled in
    subst (λ (z : Seated). PullsMany most items from n z (at seat b)) c.self.view_is (record {
      links = refl;
      misuse = λ not. absurd (not (begun_good a.phase begun));
      pulled = λ _. ran;
      none = λ _ less. pull_none (at seat b) (λ e. begun (sym phase ∙ e)) (c.pull_while_some.ensures.none less);
    })
