use Rattle.hop_core.proofs.Steps.{done_kept}
use Rattle.hop_core.proofs.state.RankState.set_done.Goals as goal

pub invariant_of-self : goal.invariant_of-self
invariant_of-self g c = (c.self.invariant.0, done_kept _ _ _ _ _ c.self.invariant.1)
