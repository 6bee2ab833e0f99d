use Rattle.std.proofs.Common.{[], ◌∷◌, ◌++◌, get_or, ap, ◌∙◌}
use Rattle.bale_items.specs.declared.triple.Triple.{Triple}
use Rattle.sparse_rows.specs.Owners.{Numbered}
use Rattle.sparse_rows.proofs.Starts.{fields_more}
use Rattle.app_permute.specs.Reorderings.{over_diagonal}
use Rattle.app_permute.proofs.transpose_run.turned_of.Goals as goal

pub loop-x-preserved : goal.loop-x-preserved
loop-x-preserved c =
    fields_more {Y = Triple} (λ (e : Numbered). over_diagonal e.1) (get_or c.args.parts.now c.args.rank []) c.loop-x.x c.entry-number.result c.loop-x.cells.items _ c.loop-x.invariant c.entry-number.ensures
    (c.in_ok-push.ensures.items ∙ ap (λ x. c.loop-x.cells.items ++ x ∷ []) c.turned.ensures)
