use Rattle.std.proofs.Common.{◌≡◌, ◌≤◌, ◌<◌, ℕ, false, true}
use Rattle.std.specs.Prelude.{slice_index_or}
use Rattle.route_tensor.specs.Grid.{ranks}
use Rattle.count_instructions.proofs.slots.sides_of.Given as goal

-- the seats of the ranks from this one on are not given out
abbrev pub invariant-loop-rank : goal.invariant-loop-rank
invariant-loop-rank g l = record {
  same_id : l.gather.id ≡ l.fn.bank.id;
  same_shape : l.gather.shape ≡ l.fn.bank.shape;
  left : (k : ℕ) → l.rank ≤ k → k < ranks l.fn.shape.grid → slice_index_or l.gather.given k true ≡ false;
}
