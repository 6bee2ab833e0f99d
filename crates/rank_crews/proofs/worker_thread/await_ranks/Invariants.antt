use Rattle.std.proofs.Common.{◌≡◌, []}
use Rattle.rtrb.specs.Ring.{received, SameConsumer}
use Rattle.rank_crews.proofs.worker_thread.await_ranks.Given as goal

abbrev pub invariant-loop : goal.invariant-loop
invariant-loop g l = record { same : SameConsumer l.fn.end l.end; none : received l.end ≡ [] }
