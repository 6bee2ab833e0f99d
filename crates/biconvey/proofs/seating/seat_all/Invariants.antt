use Rattle.std.proofs.Common.{◌≤◌, length, vec_capacity}
use Rattle.biconvey.proofs.Placing.{Seating}
use Rattle.biconvey.proofs.seating.seat_all.Given as goal

abbrev pub invariant-loop-node : goal.invariant-loop-node
invariant-loop-node g l = record {
  seating : Seating g.A.Asker.talk g.row.CAP l.queries l.replies l.of_queries l.of_replies l.number l.fn.all.items l.yielded l.node-iterator l.seated.items;
  room : length l.fn.all.items ≤ vec_capacity l.seated;
}
