use Rattle.std.proofs.Common.{◌≡◌, map}
use Rattle.std.specs.List.{range_with_len}
use Rattle.rank_group.proofs.defaults.in_order.Given as goal

abbrev pub invariant-loop-rank : goal.invariant-loop-rank
invariant-loop-rank l = l.order.items ≡ map (λ x. x) (range_with_len 0 l.rank)
