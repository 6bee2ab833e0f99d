use Rattle.std.proofs.Common.{◌≡◌, take, All}
use Rattle.least_walks.specs.code.Spans.{lists_of, IsSpanWithin}
use Rattle.least_walks.specs.Tables.{table_of}
use Rattle.least_walks.proofs.table.Table.of.Given as goal

abbrev pub invariant-loop-t : goal.invariant-loop-t
invariant-loop-t l = record {
  lists : lists_of l.edges.items l.spans.items ≡ table_of l.ranks l.places l.low l.high (take l.t-index l.entries);
  within : All (IsSpanWithin l.edges.items) l.spans.items;
}
