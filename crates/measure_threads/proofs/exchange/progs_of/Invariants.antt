use Rattle.round_examples.proofs.TrafficRuns.{Made}
use Rattle.measure_threads.proofs.exchange.progs_of.Given as goal

abbrev pub invariant-loop-rank : goal.invariant-loop-rank
invariant-loop-rank g l = Made l.ranks l.rounds l.rank l.progs
