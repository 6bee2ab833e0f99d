use Rattle.std.proofs.Common.{ℕ, [], ◌∷◌, ◌++◌, ◌%◌, get_or, ap, ◌∙◌}
use Rattle.bale_items.specs.declared.Item.{Item}
use Rattle.sparse_rows.specs.Owners.{Numbered, row_owner}
use Rattle.sparse_rows.proofs.Starts.{fields_more}
use Rattle.app_sssp.specs.SsspRuns.{edge_item}
use Rattle.app_sssp.proofs.sssp_run.edges_of.Goals as goal

pub loop-x-preserved : goal.loop-x-preserved
loop-x-preserved c =
    fields_more {Y = ℕ × Item} (λ (e : Numbered). (row_owner c.args.ranks e, edge_item e)) (get_or c.args.parts.now c.args.rank []) c.loop-x.x c.entry-number.result c.loop-x.edges.items _ c.loop-x.invariant c.entry-number.ensures
    (c.in_ok-push.ensures.items ∙ ap (λ x. c.loop-x.edges.items ++ (c.entry-number.result.1.i % c.args.ranks, x) ∷ []) c.edge_sent.ensures)
