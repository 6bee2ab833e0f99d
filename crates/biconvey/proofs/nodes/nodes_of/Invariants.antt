use Rattle.std.proofs.Common.{◌≤◌, length, vec_capacity}
use Rattle.biconvey.proofs.Making.{Making}
use Rattle.biconvey.proofs.nodes.nodes_of.Given as goal

abbrev pub invariant-loop-asker : goal.invariant-loop-asker
invariant-loop-asker g l = record {
  making : Making g.A.Asker.talk l.grid l.steady l.fn.askers l.askers l.all.items;
  room : length l.fn.askers ≤ vec_capacity l.all;
}

abbrev pub decreases-loop-asker : goal.decreases-loop-asker
decreases-loop-asker g l = length l.askers
