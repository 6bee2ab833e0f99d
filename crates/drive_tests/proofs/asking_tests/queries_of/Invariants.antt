use Rattle.std.proofs.Common.{◌<◌, ◌^◌, All}
use Rattle.drive_tests.proofs.asking_tests.queries_of.Given as goal

abbrev pub invariant-loop-question : goal.invariant-loop-question
invariant-loop-question l = All (λ q. (q.0 < l.ranks) × (q.1 < 2 ^ 64)) l.queries.items
