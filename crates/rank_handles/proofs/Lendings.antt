-- What a call that pulls a part of a view answers.
use Rattle.std.proofs.Common.{◌≡◌, ◌≢◌, Bool, refl}
use Rattle.std.specs.Prelude.{if◌then◌else◌}
use Rattle.hop_core.specs.declared.phase.Phase.{Phase}
use Rattle.hop_core.specs.declared.phase.Phase.TheVariants.{Dormant, Working, Endgame, Cleanup, Complete}
use Rattle.rank_handles.specs.declared.answer.Answer.TheVariants.{Good, NotLent}
use Rattle.rank_handles.specs.Answers.{once_begun}

-- in an epoch that has begun, by whether fewer are lent
pub lent_answer : (p : Phase) (fewer : Bool) → p ≢ Dormant → once_begun p (if fewer then NotLent else Good) ≡ (if fewer then NotLent else Good)
lent_answer Dormant fewer begun = absurd (begun refl)
lent_answer Working fewer begun = refl
lent_answer Endgame fewer begun = refl
lent_answer Cleanup fewer begun = refl
lent_answer Complete fewer begun = refl
