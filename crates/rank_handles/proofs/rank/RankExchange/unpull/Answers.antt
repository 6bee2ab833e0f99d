use Rattle.std.proofs.Common.{refl, sym, ap, ◌∙◌, subst}
use Rattle.port_bank.specs.Machine.Step.{Unpull, Idle}
use Rattle.hop_core.specs.State.{State}
use Rattle.rank_handles.specs.Seated.{Seated}
use Rattle.rank_handles.specs.Calls.{Unpulls}
use Rattle.rank_handles.specs.RankAtBank.{seat_in}
use Rattle.rank_handles.proofs.Moves.{at, moved, unpulls_by, unpulled_phase, unpulled_rank, unpulled_dims}
use Rattle.rank_handles.proofs.rank.RankExchange.unpull.Goals as goal

pub returns-clause-unpulls : goal.returns-clause-unpulls
returns-clause-unpulls g c =
    let old : State = c.self.inside.conveyor in let st : State = c.unpull.new.self in let seat = seat_in c.self.inside.seat in let is = c.unpull.ensures.state in
    let phase = ap (λ (z : State). z.phase) is ∙ unpulled_phase old old.pulled in
    let rank = ap (λ (z : State). z.rank) is ∙ unpulled_rank old old.pulled in
    let dims = ap (λ (z : State). z.dims) is ∙ unpulled_dims old old.pulled in
    let agrees = c.self.invariant.at_bank.agrees in
    subst (λ (z : Seated). Unpulls z (at seat st)) c.self.view_is
    (unpulls_by (at seat old) (at seat st) c.unpull.result c.unpull.ensures.value refl
    (λ b. moved seat old st Unpull old.phase agrees (c.unpull.ensures.step_back b) phase rank dims)
    (λ b. moved seat old st Idle old.phase agrees (c.unpull.ensures.step_none b) phase rank dims))
