use Rattle.std.proofs.Common.{◌≡◌, ◌≢◌, ◌≤◌, ℕ, List, Bool, true, false, length, take, nat_lt, arith, refl, sym, ap, ◌∙◌, subst}
use Rattle.std.proofs.lemmas.Bool.{le-ltb}
use Rattle.std.specs.Prelude.{if◌then◌else◌}
use denote.Enum.Bare.{sameb}
use Rattle.hop_core.specs.contracts.phase.Phase.{the_type}
use Rattle.hop_core.specs.declared.phase.Phase.{Phase}
use Rattle.hop_core.specs.declared.phase.Phase.TheVariants.{Dormant}
use Rattle.hop_core.specs.State.{State, pulls}
use Rattle.port_bank.specs.Machine.{Step}
use Rattle.rank_handles.specs.declared.answer.Answer.TheVariants.{Good, NotLent}
use Rattle.rank_handles.specs.RankAtBank.{seat_in, RunOf}
use Rattle.rank_handles.specs.Seated.{Seated}
use Rattle.rank_handles.specs.Views.{lent, lender, pull_steps, pulled_answer, PullsLent}
use Rattle.rank_handles.proofs.Lendings.{lent_answer}
use Rattle.rank_handles.proofs.Moves.{at}
use Rattle.rank_handles.proofs.Runs.{ran_of}
use Rattle.rank_handles.proofs.rank.RankExchange.pulled.Goals as goal

pub returns-clause-pulls : goal.returns-clause-pulls
unfolding PullsLent
returns-clause-pulls g c =
    let a : State = c.self.inside.conveyor in let b : State = c.pull_lent.new.conveyor in let seat = seat_in c.self.inside.seat in let n : ℕ = c.args.count in
    let steps : List Step = pull_steps (lender a) (take n (lent a)) in
    let begun : a.phase ≢ Dormant = λ e. absurd (let same : false ≡ true = sym c.if-eq.false ∙ (c.eq.ensures ∙ ap (λ (p : Phase). sameb the_type p Dormant) (c.phase.ensures.value ∙ e)) in cc) in
    let few : n ≤ c.lent_count.result = omega (arith, c.if-count-lent_count.false) in
    let less : nat_lt (length (lent a)) n ≡ false = le-ltb (length (lent a)) n (omega (arith, few, c.lent_count.ensures.value)) in
    let good : pulled_answer (at seat a) n ≡ Good = lent_answer a.phase (nat_lt (length (lent a)) n) begun ∙ ap (λ (m : Bool). if m then NotLent else Good) less in
    let run : RunOf steps a b = subst (λ (z : State). RunOf steps a z) (sym c.pull_lent.ensures) (c.lent_count.ensures.run n few) in
    subst (λ (z : Seated). PullsLent n z (at seat b)) c.self.view_is (record {
      links = refl;
      misuse = λ wrong. absurd (wrong good);
      pulled = λ _. ran_of seat steps a b c.self.invariant.at_bank.agrees run;
      state = λ _. c.pull_lent.ensures;
    })
