use Rattle.std.proofs.Common.{◌≡◌, length}
use Rattle.list_laws.specs.Lists.{EachAt}
use Rattle.transport_tests.specs.Exstacks.{StackStartsOut}
use Rattle.transport_tests.proofs.exstacks.Exstacks.new.Given as goal

abbrev pub invariant-loop-rank : goal.invariant-loop-rank
invariant-loop-rank g l = record {
  all : length l.sides.items ≡ l.rank;
  each : EachAt (λ r s. StackStartsOut g.row.CAP l.grid r s.stack) l.sides.items;
}
