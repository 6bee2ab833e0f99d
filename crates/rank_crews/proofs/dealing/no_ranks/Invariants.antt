use Rattle.std.proofs.Common.{◌≡◌, ◌≤◌, [], replicate, vec_capacity}
use Rattle.rank_crews.proofs.dealing.no_ranks.Given as goal

abbrev pub invariant-loop : goal.invariant-loop
invariant-loop g l = record {
  made : l.crews.items ≡ replicate l.counter [];
  room : l.count ≤ vec_capacity l.crews;
}
