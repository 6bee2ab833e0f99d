use Rattle.std.proofs.Common.{◌≤◌, length, vec_capacity}
use Rattle.rank_group.proofs.Places.{Seating}
use Rattle.rank_group.proofs.seating.seat_all.Given as goal

abbrev pub invariant-loop-rank : goal.invariant-loop-rank
invariant-loop-rank g l = record {
  seating : Seating g.Q.Program.rules g.row.CAP l.bank l.gather l.number l.fn.all.items l.yielded l.rank-iterator l.seated.items;
  room : length l.fn.all.items ≤ vec_capacity l.seated;
}
