use Rattle.rank_crews.specs.Runs.{AllRan}
use Rattle.rank_crews.proofs.worker.WorkerJob.work.Given as goal

abbrev pub invariant-loop : goal.invariant-loop
invariant-loop g l = AllRan (g.A.Seated.ran g.J.GateLog.notified) l.fn.self.ranks l.ranks
