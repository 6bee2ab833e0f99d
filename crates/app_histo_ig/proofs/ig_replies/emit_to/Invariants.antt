use Rattle.std.proofs.Common.{ℕ, ◌≤◌, ◌-◌, length, map}
use Rattle.round_program.proofs.Emissions.{Reaches}
use Rattle.app_histo_ig.specs.Igs.{ig_reply_to}
use Rattle.app_histo_ig.proofs.ig_replies.emit_to.Given as goal

abbrev pub invariant-loop-next : goal.invariant-loop-next
invariant-loop-next g l = record {
  forward : l.fn.from ≤ l.next;
  low : l.next ≤ length l.queries;
  may : (other : ℕ) → g.D.Departures.may l.fn.out other → g.D.Departures.may l.out other;
  reaches : Reaches g.D.Departures.hands (map (ig_reply_to l.ranks l.sums l.to) l.queries) l.fn.from l.next l.fn.out l.out;
}

abbrev pub decreases-loop-next : goal.decreases-loop-next
decreases-loop-next g l = length l.queries - l.next
