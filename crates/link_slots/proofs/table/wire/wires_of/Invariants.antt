use Rattle.std.proofs.Common.{◌≡◌, length}
use Rattle.list_laws.specs.Lists.{EachAt}
use Rattle.link_slots.specs.Counts.{IsWire}
use Rattle.link_slots.proofs.table.wire.wires_of.Given as goal

abbrev pub invariant-loop-link : goal.invariant-loop-link
invariant-loop-link l = (length l.wires.items ≡ l.link) × EachAt (λ k w. IsWire l.grid k w.bell w.mask w.hop) l.wires.items
