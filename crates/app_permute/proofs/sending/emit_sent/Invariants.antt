use Rattle.std.proofs.Common.{◌≡◌, ◌≤◌, ◌-◌, length, drop}
use Rattle.std.specs.List.{All}
use Rattle.round_program.proofs.Emissions.{Reaches}
use Rattle.app_permute.specs.code.Sent.{permute_sent}
use Rattle.app_permute.proofs.sending.emit_sent.Given as goal

abbrev pub invariant-loop-next : goal.invariant-loop-next
invariant-loop-next g l = record {
  all : l.count ≡ length (permute_sent l.round l.ranks l.cells);
  forward : l.fn.from ≤ l.next;
  low : l.next ≤ l.count;
  may : All (λ e. g.D.Departures.may l.out e.0) (drop l.fn.from (permute_sent l.round l.ranks l.cells));
  reaches : Reaches g.D.Departures.hands (permute_sent l.round l.ranks l.cells) l.fn.from l.next l.fn.out l.out;
}

abbrev pub decreases-loop-next : goal.decreases-loop-next
decreases-loop-next g l = l.count - l.next
