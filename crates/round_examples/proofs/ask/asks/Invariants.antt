use Rattle.std.proofs.Common.{◌≡◌, ◌++◌, drop}
use Rattle.round_examples.specs.Asks.{asks_from}
use Rattle.round_examples.proofs.ask.asks.Given as goal

abbrev pub invariant-loop-e : goal.invariant-loop-e
invariant-loop-e l = l.outgoing.items ++ asks_from l.ranks l.e (drop l.e l.names) ≡ asks_from l.ranks 0 l.names
