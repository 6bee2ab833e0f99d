use Rattle.std.proofs.Common.{◌≡◌, [], map, replicate}
use Rattle.app_histo_ig.proofs.ig_run.no_queries.Given as goal

abbrev pub invariant-loop-sender : goal.invariant-loop-sender
invariant-loop-sender l = map (λ q. q.items) l.lists.items ≡ replicate l._sender []
