use Rattle.std.proofs.Common.{take, sym, ap, ◌∙◌}
use Rattle.std.proofs.lemmas.List.Sums.{fold_more}
use Rattle.mtx_text.specs.Cells.{with_value_raised, raised_all, first_from}
use Rattle.mtx_text.proofs.Gathered.{raised_all_ordered}
use Rattle.mtx_text.proofs.cells.nearest.Goals as goal

pub loop-t-preserved : goal.loop-t-preserved
loop-t-preserved c =
    let waiting = c.args.waiting.now in
    let n = c.loop-t.t-index in
    λ cells h e.
    c.nearer-best.ensures (raised_all cells (take n waiting)) (raised_all_ordered cells (take n waiting) h) (c.loop-t.invariant cells h e)
    ∙ ap (first_from c.args.i c.args.j) (sym (fold_more (λ cells t. with_value_raised t cells) cells waiting n _ c.loop-t-test.true))
