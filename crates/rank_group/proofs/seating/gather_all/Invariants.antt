use Rattle.std.proofs.Common.{◌≤◌, List, length, vec_capacity}
use Rattle.rank_group.specs.Seats.{SeatedState}
use Rattle.rank_group.proofs.Places.{Leaving}
use Rattle.rank_group.proofs.seating.gather_all.Given as goal

-- some have left, and there is room for the others
abbrev pub invariant-loop-seated : goal.invariant-loop-seated
invariant-loop-seated g l = record {
  taken : List (SeatedState g.row.Q.Denot);
  leaving : Leaving l.bank l.gather l.fn.ended.items taken l.seated-iterator l.ranks.items;
  room : length l.fn.ended.items ≤ vec_capacity l.ranks;
}
