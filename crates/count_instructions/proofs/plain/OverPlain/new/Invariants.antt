use Rattle.std.proofs.Common.{◌≡◌, length}
use Rattle.list_laws.specs.Lists.{EachAt}
use Rattle.convey.specs.Conveyors.{IsUnusedConveyor}
use Rattle.count_instructions.proofs.plain.OverPlain.new.Given as goal

abbrev pub invariant-loop-rank : goal.invariant-loop-rank
invariant-loop-rank g l = record {
  all : length l.sides.items ≡ l.rank;
  each : EachAt (λ r s. IsUnusedConveyor l.shape.grid r s.conveyor) l.sides.items;
}
