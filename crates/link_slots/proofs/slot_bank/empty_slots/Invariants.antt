use Rattle.std.proofs.Common.{◌≡◌, replicate}
use Rattle.item_buffer.specs.Contents.{blank}
use Rattle.link_slots.proofs.slot_bank.empty_slots.Given as goal

abbrev pub invariant-loop : goal.invariant-loop
invariant-loop g l = l.slots.items ≡ replicate l.counter (blank 0)
