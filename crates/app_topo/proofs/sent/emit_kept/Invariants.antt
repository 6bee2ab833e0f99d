use Rattle.std.proofs.Common.{◌≡◌, ◌≤◌, ◌-◌, length, drop}
use Rattle.std.specs.List.{All}
use Rattle.round_program.proofs.Emissions.{Reaches}
use Rattle.app_topo.specs.code.TopoSent.{topo_sent}
use Rattle.app_topo.proofs.sent.emit_kept.Given as goal

abbrev pub invariant-loop-next : goal.invariant-loop-next
invariant-loop-next g l = record {
  all : l.count ≡ length (topo_sent l.round l.ranks l.kept.items);
  forward : l.fn.from ≤ l.next;
  low : l.next ≤ l.count;
  may : All (λ e. g.D.Departures.may l.out e.0) (drop l.fn.from (topo_sent l.round l.ranks l.kept.items));
  reaches : Reaches g.D.Departures.hands (topo_sent l.round l.ranks l.kept.items) l.fn.from l.next l.fn.out l.out;
}

abbrev pub decreases-loop-next : goal.decreases-loop-next
decreases-loop-next g l = l.count - l.next
