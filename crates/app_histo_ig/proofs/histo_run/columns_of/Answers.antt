use Rattle.std.proofs.Common.{[], get_or}
use Rattle.sparse_rows.specs.Owners.{Numbered}
use Rattle.sparse_rows.proofs.Starts.{fields_more}
use Rattle.app_histo_ig.proofs.histo_run.columns_of.Goals as goal

pub loop-x-preserved : goal.loop-x-preserved
loop-x-preserved c =
    fields_more (λ (e : Numbered). e.1.j) (get_or c.args.parts.now c.args.rank []) c.loop-x.x c.entry-number.result c.loop-x.columns.items _ c.loop-x.invariant c.entry-number.ensures c.in_ok-push.ensures.items
