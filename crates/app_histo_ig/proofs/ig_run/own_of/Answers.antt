use Rattle.std.proofs.Common.{[], ◌∷◌, ◌++◌, get_or, ap, ◌∙◌}
use Rattle.app_histo_ig.specs.code.IgSent.{own_entry}
use Rattle.sparse_rows.proofs.Starts.{fields_more}
use Rattle.app_histo_ig.proofs.ig_run.own_of.Goals as goal

pub loop-x-preserved : goal.loop-x-preserved
loop-x-preserved c =
    fields_more own_entry (get_or c.args.parts.now c.args.rank []) c.loop-x.x c.entry-number.result c.loop-x.own.items _ c.loop-x.invariant c.entry-number.ensures
    (c.in_ok-push.ensures.items ∙ ap (λ x. c.loop-x.own.items ++ x ∷ []) c.kept_of.ensures)
