use Rattle.std.proofs.Common.{◌<◌, ◌≤◌, sym, subst, arith}
use Rattle.rank_node.specs.Fits.{IsGridRank}
use Rattle.rank_node.specs.Movers.{mover_state, mover_dims, mover_rank}
use Rattle.rank_node.specs.declared.mover.Mover.{Mover}
use Rattle.exstack.proofs.OneHop.{ranks_one, grid_one}
use Rattle.rank_node.proofs.mover.Mover.known.Goals as goal

pub returns-in-Exstack : goal.returns-in-Exstack
returns-in-Exstack g c =
    let x = c.in-Exstack.exstack in
    let low : x.rank < x.ranks = c.known-in-Exstack.ensures.standing.rank in
    let few : x.ranks ≤ 64 = c.known-in-Exstack.ensures.standing.few in
    subst (λ (m : Mover g.row.CAP g.row.HOPS). IsGridRank (mover_dims (mover_state m)) (mover_rank (mover_state m))) (sym c.in-Exstack.is)
    (record { grid = grid_one x.ranks (omega (arith, low)) few; low = subst (λ n. x.rank < n) (sym (ranks_one x.ranks)) low })
