use Rattle.std.proofs.Common.{◌≤◌, ◌-◌, drop, length}
use Rattle.std.specs.List.{All}
use Rattle.round_program.proofs.Emissions.{Reaches}
use Rattle.rank_node.specs.Sending.{votes_to}
use Rattle.rank_node.proofs.sends.vote_each.Given as goal

abbrev pub invariant-loop-next : goal.invariant-loop-next
invariant-loop-next g l = record {
  forward : l.fn.from ≤ l.next;
  low : l.next ≤ length (votes_to l.ranks l.vote);
  may : All (λ e. g.D.Departures.may l.out e.0) (drop l.fn.from (votes_to l.ranks l.vote));
  reaches : Reaches g.D.Departures.hands (votes_to l.ranks l.vote) l.fn.from l.next l.fn.out l.out;
}

abbrev pub decreases-loop-next : goal.decreases-loop-next
decreases-loop-next g l = l.ranks - l.next
