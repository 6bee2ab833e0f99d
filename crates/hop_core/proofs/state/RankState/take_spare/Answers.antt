use Rattle.hop_core.proofs.Exchanging.{lent_kept}
use Rattle.hop_core.proofs.state.RankState.take_spare.Goals as goal

pub invariant_of-self : goal.invariant_of-self
invariant_of-self g c = (c.self.invariant.0, lent_kept _ _ _ _ _ _ c.self.invariant.1)
