use Rattle.std.proofs.Common.{◌≡◌, ◌++◌, map, drop}
use Rattle.round_examples.specs.Asks.{ask_replies_from}
use Rattle.round_examples.proofs.ask.replies.Given as goal

abbrev pub invariant-loop-from : goal.invariant-loop-from
invariant-loop-from l = l.outgoing.items ++ ask_replies_from l.table l.from (map (λ q. q.items) (drop l.from l.queries)) ≡ ask_replies_from l.table 0 (map (λ q. q.items) l.queries)
