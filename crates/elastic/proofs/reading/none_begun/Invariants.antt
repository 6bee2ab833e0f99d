use Rattle.std.proofs.Common.{◌≡◌, [], map, replicate}
use Rattle.elastic.proofs.reading.none_begun.Given as goal

abbrev pub invariant-loop-sender : goal.invariant-loop-sender
invariant-loop-sender l = map (λ q. q.items) l.begun.items ≡ replicate l._sender []
