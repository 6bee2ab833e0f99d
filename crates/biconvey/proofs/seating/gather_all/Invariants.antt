use Rattle.std.proofs.Common.{◌≤◌, List, length, vec_capacity}
use Rattle.biconvey.specs.Seats.{BiSeatedState}
use Rattle.biconvey.proofs.Placing.{Leaving}
use Rattle.biconvey.proofs.seating.gather_all.Given as goal

-- some have left, and there is room for the others
abbrev pub invariant-loop-seated : goal.invariant-loop-seated
invariant-loop-seated g l = record {
  taken : List (BiSeatedState g.row.A.Denot);
  leaving : Leaving l.queries l.replies l.of_queries l.of_replies l.fn.ended.items taken l.seated-iterator l.nodes.items;
  room : length l.fn.ended.items ≤ vec_capacity l.nodes;
}
