use Rattle.link_slots.proofs.Settling.{live}
use Rattle.link_slots.proofs.slot_bank.live.live_law.Goals as goal

pub returns : goal.returns
returns g c = λ shape s is ok. live g.row.CAP shape s is ok
