use Rattle.std.proofs.Common.{take}
use Rattle.query_node.specs.Lines.{HasLines}
use Rattle.query_node.proofs.lines.all_lines.Given as goal

abbrev pub invariant-loop-i : goal.invariant-loop-i
invariant-loop-i g l = HasLines l.ranks (take l.i (g.A.Asker.talk.queries l.asker.value)) l.lines.items
