use Rattle.std.proofs.Common.{◌≡◌, ◌<◌, ◌++◌, ℕ, true, List, length, get_or, arith, refl, sym, ap, ◌∙◌, subst}
use Rattle.route_tensor.specs.Grid.{ranks}
use Rattle.port_bank.specs.Machine.Step.{Push}
use Rattle.hop_core.specs.declared.phase.Phase.TheVariants.{Working}
use Rattle.hop_core.specs.State.{State}
use Rattle.rank_handles.specs.declared.answer.Answer.TheVariants.{Good}
use Rattle.rank_handles.specs.Seated.{Seated}
use Rattle.rank_handles.specs.Many.{steps_of, then_idle, all_ranks, push_many_answer, PushesMany}
use Rattle.rank_handles.specs.RankAtBank.{seat_in}
use Rattle.rank_handles.proofs.Moves.{at, all_good}
use Rattle.rank_handles.proofs.Runs.{ran_of, rank_at, push_full}
use Rattle.rank_handles.proofs.rank.RankExchange.push_many.Goals as goal

pub returns-clause-pushes : goal.returns-clause-pushes
unfolding PushesMany
returns-clause-pushes g c =
    let a : State = c.self.inside.conveyor in let b : State = c.push_while_room.new.conveyor in let seat = seat_in c.self.inside.seat in let items = c.args.items.now in let to : List ℕ = c.args.to.now in
    let n : ℕ = c.push_while_room.result in let same = c.push_while_room.ensures.pushed.same in
    let working : a.phase ≡ Working = sym c.phase.ensures.value ∙ c.in-Working.is in
    let count : ranks a.dims ≡ c.self.inside.ranks = sym c.self.invariant.count_is in
    let dims : ranks b.dims ≡ c.self.inside.ranks = ap (λ (z : State). ranks z.dims) same ∙ count in
    let all : all_ranks c.self.inside.ranks to ≡ true = sym c.are_ranks.ensures ∙ c.if-not-are_ranks.false in
    let cap : b.cap ≡ a.cap = ap (λ (z : State). z.cap) same in
    let ran = ran_of seat (steps_of Push n items to ++ then_idle n (length items)) a b c.self.invariant.at_bank.agrees c.push_while_room.ensures.pushed in
    let good : push_many_answer (at seat a) to ≡ Good = all_good a.phase (all_ranks (ranks a.dims) to) working (subst (λ m. all_ranks m to ≡ true) (sym count) all) in
    subst (λ (z : Seated). PushesMany items to n z (at seat b)) c.self.view_is (record {
      links = refl;
      misuse = λ not. absurd (not good);
      pushed = λ _. ran;
      full = λ _ less.
          let place : n < length to = omega (arith, less, c.requires.same) in
          push_full (at seat b) (get_or to n 0) (ap (λ (z : State). z.phase) same ∙ working) (rank_at (ranks b.dims) to n place (subst (λ m. all_ranks m to ≡ true) (sym dims) all))
          (omega (arith, c.push_while_room.ensures.full less, cap, c.phase.ensures.stands.cap_is));
    })
