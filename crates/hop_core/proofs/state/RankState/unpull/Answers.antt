use Rattle.std.proofs.Common.{◌<◌, arith, length}
use Rattle.hop_core.proofs.Epochs.{unpull_kept}
use Rattle.hop_core.proofs.state.RankState.unpull.Goals as goal

pub index_mut-requires : goal.index_mut-requires
index_mut-requires g c =
    let can = c.self.invariant.1.standing.can_unpull _ c.in-Some.is in
    let n : c.in-Some.number < length c.self.inside.ins.items = omega (arith, can.within, c.self.invariant.1.standing.all_ins) in
    omega (arith, n)

pub invariant_of-self : goal.invariant_of-self
invariant_of-self g c =
    let can = c.self.invariant.1.standing.can_unpull _ c.in-Some.is in
    (c.self.invariant.0, rw c.min-self-inside.ensures (unpull_kept _ _ _ _ _ _ _ _ c.self.invariant.1 can c.index_mut.ensures.value c.untake.ensures.state c.untake.ensures.fits))
