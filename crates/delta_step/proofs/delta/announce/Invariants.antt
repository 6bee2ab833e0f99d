use Rattle.std.proofs.Common.{◌≡◌, map}
use Rattle.std.specs.List.{range_with_len}
use Rattle.delta_step.proofs.delta.announce.Given as goal

abbrev pub invariant-loop-rank : goal.invariant-loop-rank
invariant-loop-rank l = l.outgoing.items ≡ map (λ d. (d, record { a = l.bucket; b = 0; c = 0 })) (range_with_len 0 l.rank)
