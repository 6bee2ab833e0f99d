use Rattle.rank_crews.specs.laws.RunLaws.{all_ran_laws}
use Rattle.rank_crews.proofs.worker.WorkerJob.work.Goals as goal

pub loop-init : goal.loop-init
loop-init g c = (all_ran_laws (g.A.Seated.ran g.J.GateLog.notified) (g.met.A.Seated.laws g.J.GateLog.notified)).none c.args.self.ranks

pub loop-preserved : goal.loop-preserved
loop-preserved g c = (all_ran_laws (g.A.Seated.ran g.J.GateLog.notified) (g.met.A.Seated.laws g.J.GateLog.notified)).on c.args.self.ranks c.loop.ranks c.sweep.new.self c.loop.invariant c.sweep.ensures.ran
