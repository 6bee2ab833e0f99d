use Rattle.std.proofs.Common.{arith, ap, ⊎_elim}
use Rattle.item_buffer.specs.Contents.{Contents}
use Rattle.link_slots.specs.Logs.{InLog}
use Rattle.link_slots.proofs.slot_bank.live.room_law.Goals as goal

pub returns-clause-full : goal.returns-clause-full
returns-clause-full g c =
    λ shape s l bank below full.
    let bell = bank.each_bell l below in let link = bank.each_link l below in
    let most = link.room_slots in let looked = full.looked in let posted = full.posted in
    ⊎_elim (λ never. absurd (omega arith)) (λ all. omega arith) bell.found

-- no release is counted after the look
pub returns-clause-step : goal.returns-clause-step
returns-clause-step g c =
    λ shape s s' l was now below same more.
    let before = (was.each_bell l below).released in
    let at = ap (λ (i : InLog Contents). i.released_at) same in let most = (now.each_link l below).room_slots in
    ⊎_elim (λ never. absurd (omega arith)) (λ all. omega arith) (now.each_bell l below).found
