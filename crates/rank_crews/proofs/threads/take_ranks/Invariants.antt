use Rattle.std.proofs.Common.{◌≡◌, ◌≤◌, ◌++◌, true, List, length, map, reverse, vec_capacity}
use Rattle.std.specs.List.{All, list_all}
use Rattle.rank_crews.specs.Runs.{AllRan}
use Rattle.rank_crews.specs.Children.{first_of, HasEnded}
use Rattle.rank_crews.proofs.threads.take_ranks.Given as goal

-- the ranks of the workers from the end on have come back
abbrev pub invariant-loop-child : goal.invariant-loop-child
invariant-loop-child g l = record {
  back : List (List g.row.A.Denot);
  left : back ++ reverse (map first_of l.children.items) ≡ reverse (map first_of l.fn.children.items);
  ran : AllRan (AllRan (g.A.Seated.ran g.J.GateLog.notified)) back l.back.items;
  over : All (λ xs. list_all g.A.Seated.over xs ≡ true) l.back.items;
  ended : All (HasEnded g.A.Seated.over) l.children.items;
  room : length l.fn.children.items ≤ vec_capacity l.back;
}

abbrev pub decreases-loop-child : goal.decreases-loop-child
decreases-loop-child g l = length l.children.items
