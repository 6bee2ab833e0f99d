use Rattle.std.proofs.Common.{◌≡◌, take}
use Rattle.port_bank.specs.PassedParcels.{passed_entries}
use Rattle.port_bank.proofs.log.seen.Given as goal

abbrev pub invariant-loop-entry : goal.invariant-loop-entry
invariant-loop-entry l = passed_entries l.all ≡ take l.entry-index l.entries
