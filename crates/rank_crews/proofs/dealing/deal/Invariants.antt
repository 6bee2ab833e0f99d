use Rattle.std.proofs.Common.{◌≡◌, ◌++◌, List, length}
use Rattle.rank_crews.specs.Crews.{AreDealt}
use Rattle.rank_crews.proofs.dealing.deal.Given as goal

-- the ranks from the end on are dealt
abbrev pub invariant-loop-at : goal.invariant-loop-at
invariant-loop-at g l = record {
  dealt : List g.row.A.Denot;
  whole : l.all.items ++ dealt ≡ l.fn.all.items;
  are : AreDealt l.count (length l.all.items) dealt l.crews.items;
}

abbrev pub decreases-loop-at : goal.decreases-loop-at
decreases-loop-at g l = length l.all.items
