use Rattle.std.proofs.Common.{◌<◌, ◌≡◌, length, All}
use Rattle.measure_threads.proofs.exchange.targets_of.Given as goal

abbrev pub invariant-loop : goal.invariant-loop
invariant-loop l = (length l.targets.items ≡ l.counter) × All (λ t. (t.0 < l.ranks) × (t.1 < 1024)) l.targets.items
