use Rattle.std.proofs.Common.{◌≡◌, ◌≤◌, ◌++◌, reverse, length, vec_capacity}
use Rattle.rank_group.proofs.list_parts.one_by_one.Given as goal

-- the elements that have moved over stand in turned order, and there is room for the others
abbrev pub invariant-loop-x : goal.invariant-loop-x
invariant-loop-x g l = record {
  items : l.list.items ++ reverse l.left.items ≡ l.fn.list.items;
  room : length l.fn.list.items ≤ vec_capacity l.left;
}

abbrev pub decreases-loop-x : goal.decreases-loop-x
decreases-loop-x g l = length l.list.items
