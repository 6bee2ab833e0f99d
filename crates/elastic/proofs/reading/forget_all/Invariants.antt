use Rattle.std.proofs.Common.{◌≡◌, ◌++◌, [], map, replicate, drop}
use Rattle.elastic.proofs.reading.forget_all.Given as goal

abbrev pub invariant-loop-sender : goal.invariant-loop-sender
invariant-loop-sender l = map (λ q. q.items) l.begun.items ≡ replicate l.sender [] ++ drop l.sender (map (λ q. q.items) l.fn.begun.items)
