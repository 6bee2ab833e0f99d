use Rattle.query_node.proofs.Pulling.{PullsSome}
use Rattle.query_node.proofs.answering.pull_some.Given as goal

abbrev pub invariant-loop : goal.invariant-loop
invariant-loop g l = PullsSome l.counter l.fn.queries l.queries
