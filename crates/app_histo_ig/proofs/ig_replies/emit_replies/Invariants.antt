use Rattle.std.proofs.Common.{◌≡◌, ◌≤◌, length, drop, map}
use Rattle.std.specs.List.{All}
use Rattle.round_program.proofs.Emissions.{Reaches}
use Rattle.app_histo_ig.proofs.IgReplies.{from_list}
use Rattle.app_histo_ig.proofs.ig_replies.emit_replies.Given as goal

abbrev pub invariant-loop-to : goal.invariant-loop-to
invariant-loop-to g l = record {
  rest : drop l.first (from_list l.ranks l.sums (map (λ q. q.items) l.queries) 0) ≡ from_list l.ranks l.sums (map (λ q. q.items) l.queries) l.to;
  whole : l.first ≤ length (from_list l.ranks l.sums (map (λ q. q.items) l.queries) 0);
  forward : l.fn.from ≤ l.next;
  low : l.next ≤ length (from_list l.ranks l.sums (map (λ q. q.items) l.queries) 0);
  behind : l.first ≤ l.next;
  may : All (λ e. g.D.Departures.may l.out e.0) (drop l.fn.from (from_list l.ranks l.sums (map (λ q. q.items) l.queries) 0));
  reaches : Reaches g.D.Departures.hands (from_list l.ranks l.sums (map (λ q. q.items) l.queries) 0) l.fn.from l.next l.fn.out l.out;
}
