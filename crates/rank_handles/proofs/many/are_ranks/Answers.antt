use Rattle.std.proofs.Common.{true, false, arith, get_or, ◌∙◌}
use Rattle.std.proofs.lemmas.Bool.{lt-ltb, le-ltb}
use Rattle.rank_handles.proofs.Runs.{ranks_none, ranks_next, with_true, with_false}
use Rattle.rank_handles.proofs.many.are_ranks.Goals.{then-to-at, else-to-at}
use Rattle.rank_handles.proofs.many.are_ranks.Goals as goal

pub loop-at-init : goal.loop-at-init
loop-at-init c = (omega arith, ranks_none c.args.ranks)

pub loop-at-preserved : goal.loop-at-preserved
loop-at-preserved c = (
  omega (arith, c.loop-at-test.true),
  elim c.if-to-at.branch [
    | then-to-at w ↦ ranks_next c.args.ranks c.args.to.now c.loop-at.at c.loop-at.good c.if-to-at.good true c.loop-at-test.true c.loop-at.invariant.1
        (lt-ltb (get_or c.args.to.now c.loop-at.at 0) c.args.ranks w.if-to-at.true) (w.good-is ∙ with_true c.loop-at.good)
    | else-to-at w ↦ ranks_next c.args.ranks c.args.to.now c.loop-at.at c.loop-at.good c.if-to-at.good false c.loop-at-test.true c.loop-at.invariant.1
        (le-ltb (get_or c.args.to.now c.loop-at.at 0) c.args.ranks w.if-to-at.false) (w.good-is ∙ (le-ltb (get_or c.args.to.now c.loop-at.at 0) c.args.ranks w.if-to-at.false ∙ with_false c.loop-at.good))
  ],
)
