use Rattle.std.proofs.Common.{◌≡◌, replicate, []}
use Rattle.port_bank.specs.Plain.{unused_channel}
use Rattle.port_bank.proofs.plain_bank.PlainBank.new.Given as goal

abbrev pub invariant-loop : goal.invariant-loop
invariant-loop g l = record { links : l.links.items ≡ replicate l.counter unused_channel; rings : l.rings.items ≡ replicate l.counter [] }
