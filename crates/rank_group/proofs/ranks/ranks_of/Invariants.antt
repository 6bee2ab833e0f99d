use Rattle.std.proofs.Common.{◌≤◌, length, vec_capacity}
use Rattle.rank_node.specs.Movers.{manner_of}
use Rattle.rank_group.proofs.Making.{Making}
use Rattle.rank_group.proofs.ranks.ranks_of.Given as goal

abbrev pub invariant-loop-prog : goal.invariant-loop-prog
invariant-loop-prog g l = record {
  making : Making g.Q.Program.rules l.grid g.row.CAP (manner_of l.via l.steady) l.fn.progs l.progs l.all.items;
  room : length l.fn.progs ≤ vec_capacity l.all;
}

abbrev pub decreases-loop-prog : goal.decreases-loop-prog
decreases-loop-prog g l = length l.progs
