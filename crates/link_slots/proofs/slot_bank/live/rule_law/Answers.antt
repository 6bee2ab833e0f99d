use Rattle.link_slots.proofs.slot_bank.live.rule_law.Goals as goal

pub returns : goal.returns
returns g c = λ shape s is. is
