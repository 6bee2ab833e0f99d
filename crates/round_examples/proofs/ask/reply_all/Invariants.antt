use Rattle.std.proofs.Common.{◌≡◌, ◌++◌, map, take}
use Rattle.round_examples.specs.Asks.{ask_reply_to}
use Rattle.round_examples.proofs.ask.reply_all.Given as goal

abbrev pub invariant-loop-query : goal.invariant-loop-query
invariant-loop-query l = l.outgoing.items ≡ l.fn.outgoing.items ++ map (ask_reply_to l.table l.from) (take l.query-index l.queries)
