use Rattle.std.proofs.Common.{◌≡◌, true, ℕ, ◌+◌, ◌≤◌, ◌++◌, length, map, reverse, slice_get, Some, vec_capacity}
use Rattle.rank_crews.specs.declared.child.Child.{Child}
use Rattle.rank_crews.specs.Children.{first_of, is_there}
use Rattle.rank_crews.proofs.threads.start_all.Given as goal

abbrev pub invariant-loop-ranks : goal.invariant-loop-ranks
invariant-loop-ranks g l = record {
  same : map first_of l.children.items ++ reverse l.all.items ≡ reverse l.fn.all.items;
  room : length l.fn.all.items ≤ vec_capacity l.children;
  started : (k : ℕ) (c : Child g.row.A.Denot g.row.J.Denot) → slice_get l.children.items k ≡ Some c → is_there c ≡ true → length l.fn.all.items ≤ l.threads.number + k;
}

abbrev pub decreases-loop-ranks : goal.decreases-loop-ranks
decreases-loop-ranks g l = length l.all.items
