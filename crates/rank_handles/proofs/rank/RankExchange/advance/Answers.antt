use Rattle.std.proofs.Common.{◌≡◌, ◌≢◌, ◌&&◌, not, Bool, true, false, sym, ap, ◌∙◌, subst}
use Rattle.link_slots.specs.SeatView.{SeatView}
use denote.Enum.Bare.{sameb}
use Rattle.hop_core.specs.contracts.phase.Phase.{the_type}
use Rattle.hop_core.specs.declared.phase.Phase.{Phase}
use Rattle.hop_core.specs.declared.phase.Phase.TheVariants.{Dormant}
use Rattle.convey.specs.Buffers.{is_complete}
use Rattle.convey.specs.Progress.{advance_step}
use Rattle.rank_handles.specs.Seated.{Seated}
use Rattle.rank_handles.specs.Calls.{Advances}
use Rattle.rank_handles.specs.RankAtBank.{seat_in, IsAtBank}
use Rattle.std.specs.Arc.{arc_value}
use Rattle.rank_handles.proofs.Moves.{at, moved_on, advances_on, advanced_answer, progress_begun, progress_undone}
use Rattle.rank_handles.proofs.Runs.{with_false}
use Rattle.rank_handles.proofs.rank.RankExchange.advance.Goals.{else-self-via-then-self+else-not-done, else-self-via-else-self}
use Rattle.rank_handles.proofs.rank.RankExchange.advance.Goals as goal

pub returns-clause-advances : goal.returns-clause-advances
returns-clause-advances g c =
    let old = c.self.inside.conveyor in let new = c.advance_at-progress.new.conveyor in let told = c.advance_at-progress.ensures in let seat' = c.advance_at-progress.result.1 in
    let there : seat_in c.self.inside.seat ≡ c.in-Some.seat = ap seat_in (sym c.take.ensures.value ∙ c.in-Some.is) in
    let was : IsAtBank (arc_value c.self.inside.bank) c.in-Some.seat old = subst (λ (m : SeatView). IsAtBank (arc_value c.self.inside.bank) m old) there c.self.invariant.at_bank in
    let begun : old.phase ≢ Dormant = λ e. absurd (let same : false ≡ true = sym c.if-eq.false ∙ (c.eq.ensures ∙ ap (λ (p : Phase). sameb the_type p Dormant) (c.phase.ensures.value ∙ e)) in cc) in
    let undone : (old.done && not c.args.done) ≡ false = elim c.else-self.branch [
      | else-self-via-then-self+else-not-done w ↦ ap (λ (b : Bool). old.done && not b) w.if-not-done.false ∙ sym (with_false old.done)
      | else-self-via-else-self w ↦ ap (λ (a : Bool). a && not c.args.done) (sym c.self.invariant.done_is ∙ w.if-self.false)
    ] in
    let answer = advanced_answer old.phase new.phase (old.done && not c.args.done) begun undone in
    subst (λ (z : Seated). Advances c.args.done z (at seat' new)) (ap (λ (m : SeatView). at m old) (sym there) ∙ c.self.view_is)
    (advances_on c.args.done (at c.in-Some.seat old) (at seat' new) (λ e. progress_begun new.phase (sym answer ∙ e)) (λ e. progress_undone new.phase (sym answer ∙ e)) (moved_on (arc_value c.self.inside.bank) c.deref.result.now c.in-Some.seat seat' old new (advance_step old.done c.args.done (is_complete new.phase)) c.deref.ensures was told.at_bank told.rank told.dims told.step) told.done (record { begun = told.begun; working = told.working; undone = λ e. sym told.done ∙ told.at_bank.working e }))
