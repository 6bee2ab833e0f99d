use Rattle.std.proofs.Common.{refl, ap, arith}
use Rattle.route_tensor.specs.Link.{links_before}
use Rattle.hop_core.proofs.Epochs.{renewed_kept}
use Rattle.hop_core.proofs.state.RankState.reset.Goals as goal

pub invariant_of-self : goal.invariant_of-self
invariant_of-self g c = (
  c.self.invariant.0,
  rw (c.reopen_all.ensures, c.resume_all.ensures) (renewed_kept _ _ _ _ _ _ _ _ _ c.self.invariant.1 refl c.neighbours-self-inside.ensures.value
      (omega (arith, c.neighbours.ensures.value, c.first_of.ensures.value, ap (links_before c.self.inside.routes.dims) c.self.invariant.0))),
)
