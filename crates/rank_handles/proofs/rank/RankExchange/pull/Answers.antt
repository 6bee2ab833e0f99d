use Rattle.std.proofs.Common.{◌≡◌, ◌≢◌, ◌<◌, sym, ap, ◌∙◌, subst, ℕ, Result, Err, IfOk}
use Rattle.bale_items.specs.declared.item.Item.{Item}
use Rattle.route_tensor.specs.Grid.{ranks}
use Rattle.port_bank.specs.Machine.Step.{Pull, Idle}
use Rattle.hop_core.specs.declared.phase.Phase.TheVariants.{Dormant}
use Rattle.hop_core.specs.State.{State, lowest_unread, pull_from}
use Rattle.rank_handles.specs.declared.answer.Answer.{Answer}
use Rattle.rank_handles.specs.declared.answer.Answer.TheVariants.{Nothing}
use Rattle.rank_handles.specs.Seated.{Seated, Moved}
use Rattle.rank_handles.specs.Answers.{item_or_nothing, pull_result}
use Rattle.rank_handles.specs.RankAtBank.{seat_in}
use Rattle.rank_handles.proofs.Moves.{at, begun_pull, never_not_begun, pull_moved, sender_ok, none_given, pulls_begun, seated_still, pulled_phase, pulled_rank, pulled_dims, pulled_epoch, pulled_done}
use Rattle.std.specs.Arc.{arc_value}
use Rattle.rank_handles.proofs.rank.RankExchange.pull.Goals as goal

pub returns-in_default : goal.returns-in_default
returns-in_default g c =
    let old = c.self.inside.conveyor in let new = c.pull.new.self in let seat = seat_in c.self.inside.seat in let l = lowest_unread old in let is = c.pull.ensures.state in
    let begun : old.phase ≢ Dormant = λ e. c.in_default.not-Dormant (c.phase.ensures.value ∙ e) in
    let both = subst (λ (r : Result (ℕ × Item) Answer). IfOk r (λ p. Moved (Pull p.0 p.1) old.phase (at seat old) (at seat new)) × (r ≡ Err Nothing → Moved Idle old.phase (at seat old) (at seat new))) (sym c.some_item.ensures)
    (pull_moved seat old new c.pull.result c.self.invariant.at_bank.agrees c.pull.ensures.item (λ n. (c.pull.ensures.none n).step)
    (ap (λ (z : State). z.phase) is ∙ pulled_phase old l) (ap (λ (z : State). z.rank) is ∙ pulled_rank old l) (ap (λ (z : State). z.dims) is ∙ pulled_dims old l)) in
    let seen = subst (λ (z : Seated). IfOk c.some_item.result (λ p. Moved (Pull p.0 p.1) z.state.phase z (at seat new)) × (c.some_item.result ≡ Err Nothing → Moved Idle z.state.phase z (at seat new))) c.self.view_is both in
    let value = c.some_item.ensures ∙ (ap item_or_nothing c.pull.ensures.value ∙ (begun_pull old.phase (item_or_nothing (pull_from old l)) begun ∙ ap pull_result c.self.view_is)) in
    record {
      value = value;
      pulls = pulls_begun c.args.self.now (at seat new) c.some_item.result value (λ e. never_not_begun c.pull.result (sym c.some_item.ensures ∙ e)) (ap (λ (z : Seated). z.seat) c.self.view_is) seen.0 seen.1
          (subst (λ (z : Seated). IfOk c.some_item.result (λ p. p.0 < ranks z.state.dims)) c.self.view_is
          (subst (λ (r : Result (ℕ × Item) Answer). IfOk r (λ p. p.0 < ranks old.dims)) (sym c.some_item.ensures) (sender_ok (ranks old.dims) c.pull.result c.pull.ensures.sender)))
          (λ e. ap (λ (z : State). pull_result (at seat z)) (c.pull.ensures.none (none_given c.pull.result (sym c.some_item.ensures ∙ e))).state ∙ (ap pull_result c.self.view_is ∙ (sym value ∙ e)));
    }

pub invariant_of-self : goal.invariant_of-self
invariant_of-self g c =
    let old = c.self.inside.conveyor in let l = lowest_unread old in let is = c.pull.ensures.state in
    seated_still (arc_value c.self.inside.bank) c.self.inside.seat old c.pull.new.self c.self.inside.ranks c.self.inside.epoch c.self.inside.done c.self.inside.statistics c.self.invariant c.pull.ensures.kept
    (ap (λ (z : State). z.rank) is ∙ pulled_rank old l) (ap (λ (z : State). z.dims) is ∙ pulled_dims old l) (ap (λ (z : State). z.phase) is ∙ pulled_phase old l)
    (ap (λ (z : State). z.epoch) is ∙ pulled_epoch old l) (ap (λ (z : State). z.done) is ∙ pulled_done old l)
