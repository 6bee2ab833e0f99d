use Rattle.std.proofs.Common.{length}
use Rattle.app_tally.proofs.line_index.LineIndex.hash_of.Given as goal

abbrev pub decreases-loop-rest : goal.decreases-loop-rest
decreases-loop-rest l = length l.rest
