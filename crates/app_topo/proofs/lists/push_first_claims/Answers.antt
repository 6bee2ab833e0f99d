use Rattle.std.proofs.Common.{map}
use Rattle.app_topo.specs.code.TopoSent.{to_other}
use Rattle.app_topo.proofs.TopoLists.{rows_more}
use Rattle.app_topo.proofs.lists.push_first_claims.Goals as goal

pub loop-place-preserved : goal.loop-place-preserved
loop-place-preserved c =
    rows_more c.args.ranks c.args.rank c.args.size c.loop-place.place c.args.numbers.now c.args.sums.now (map (to_other c.args.ranks 2) c.loop-place.outgoing.items) _ c.loop-place.invariant c.in_ok-push_row.ensures
