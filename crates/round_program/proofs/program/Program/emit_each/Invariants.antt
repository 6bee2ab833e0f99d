use Rattle.std.proofs.Common.{◌≡◌, ◌≤◌, ◌-◌, length, drop}
use Rattle.std.specs.List.{All}
use Rattle.round_program.proofs.Emissions.{Reaches}
use Rattle.round_program.proofs.program.Program.emit_each.Given as goal

abbrev pub invariant-loop-next : goal.invariant-loop-next
invariant-loop-next g l = record {
  all : l.count ≡ length (g.Self.Program.rules.emissions l.self);
  forward : l.fn.from ≤ l.next;
  low : l.next ≤ l.count;
  may : All (λ e. g.D.Departures.may l.out e.0) (drop l.fn.from (g.Self.Program.rules.emissions l.self));
  reaches : Reaches g.D.Departures.hands (g.Self.Program.rules.emissions l.self) l.fn.from l.next l.fn.out l.out;
}

abbrev pub decreases-loop-next : goal.decreases-loop-next
decreases-loop-next g l = l.count - l.next
