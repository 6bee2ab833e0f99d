use Rattle.std.proofs.Common.{[], get_or}
use Rattle.app_topo.proofs.TopoKept.{entry_more}
use Rattle.app_topo.proofs.topo_run.entries_of.Goals as goal

pub loop-x-preserved : goal.loop-x-preserved
loop-x-preserved c =
    entry_more c.loop-x.x (get_or c.args.parts.now c.args.rank []) c.entry-number.result c.loop-x.entries.items _ c.loop-x.invariant c.entry-number.ensures
    c.in_ok-push.ensures.items
