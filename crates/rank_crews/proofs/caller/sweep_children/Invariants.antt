use Rattle.std.proofs.Common.{◌≡◌, ◌<◌, ℕ, map, slice_get, Some}
use Rattle.rank_crews.specs.declared.child.Child.{Child}
use Rattle.rank_crews.specs.declared.caller.Progress.TheVariants.{Over}
use Rattle.rank_crews.specs.Children.{first_of, HasEnded, IsSwept}
use Rattle.rank_crews.proofs.Joining.{ChangedBelow}
use Rattle.rank_crews.proofs.caller.sweep_children.Given as goal

abbrev pub invariant-loop-i : goal.invariant-loop-i
invariant-loop-i g l = record {
  same : map first_of l.children.items ≡ map first_of l.fn.children.items;
  swept : ChangedBelow (IsSwept g.A.Seated.over g.A.Seated.turns) l.i l.fn.children.items l.children.items;
  ended : l.progress ≡ Over → (k : ℕ) (x : Child g.row.A.Denot g.row.J.Denot) → k < l.i → slice_get l.children.items k ≡ Some x → HasEnded g.A.Seated.over x;
}
