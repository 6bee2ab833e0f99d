use Rattle.std.proofs.Common.{◌≡◌, ◌≤◌, ◌+◌, ◌-◌, ◌++◌, map, take, length, vec_len, vec_capacity}
use Rattle.least_walks.specs.Tables.{offer}
use Rattle.least_walks.proofs.table.offer_all.Given as goal

abbrev pub invariant-loop-edge : goal.invariant-loop-edge
invariant-loop-edge l = record {
  offered : l.outgoing.items ≡ l.fn.outgoing.items ++ map (offer l.weight) (take l.edge-index l.edges);
  room : vec_len l.outgoing + (length l.edges - l.edge-index) ≤ vec_capacity l.outgoing;
}
