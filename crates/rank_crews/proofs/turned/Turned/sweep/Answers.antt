use Rattle.rank_crews.specs.laws.RunLaws.{all_ran_laws}
use Rattle.rank_crews.proofs.turned.Turned.sweep.Goals as goal

pub invariant_of-self : goal.invariant_of-self
invariant_of-self g c = (all_ran_laws (g.A.Seated.ran g.J.GateLog.notified) (g.met.A.Seated.laws g.J.GateLog.notified)).on c.self.inside.first.value c.self.inside.ranks c.sweep.new.self c.self.invariant c.sweep.ensures.ran
