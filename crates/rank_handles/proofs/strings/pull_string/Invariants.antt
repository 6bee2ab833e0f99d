use Rattle.std.proofs.Common.{map}
use Rattle.rank_handles.specs.ElasticKept.{NoString, KeepsBegun, unpulled}
use Rattle.rank_handles.proofs.strings.pull_string.Given as goal

abbrev pub invariant-loop-from : goal.invariant-loop-from
invariant-loop-from l = NoString l.initial.rank l.rank × KeepsBegun l.rank (map (λ q. q.items) l.begun.items)

abbrev pub decreases-loop-from : goal.decreases-loop-from
decreases-loop-from l = unpulled l.rank
