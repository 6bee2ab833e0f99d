use Rattle.std.proofs.Common.{◌≡◌, [], replicate}
use Rattle.query_node.proofs.lines.no_lines.Given as goal

abbrev pub invariant-loop-rank : goal.invariant-loop-rank
invariant-loop-rank l = l.lines.items ≡ replicate l._rank []
