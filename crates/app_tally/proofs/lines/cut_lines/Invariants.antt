use Rattle.std.proofs.Common.{◌-◌, length}
use Rattle.app_tally.proofs.Walked.{Walk}
use Rattle.app_tally.proofs.lines.cut_lines.Given as goal

abbrev pub invariant-loop-start : goal.invariant-loop-start
invariant-loop-start l = Walk l.text l.spans.items l.start

abbrev pub decreases-loop-start : goal.decreases-loop-start
decreases-loop-start l = length l.text - l.start
