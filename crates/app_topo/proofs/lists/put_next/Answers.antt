use Rattle.app_topo.proofs.TopoKept.{next_falls}
use Rattle.app_topo.proofs.lists.put_next.Goals as goal

pub returns-in_ok-push_all_falls : goal.returns-in_ok-push_all_falls
returns-in_ok-push_all_falls c =
    next_falls c.args.round c.args.rank c.args.ranks c.args.size c.args.numbers.now c.args.sums.now c.args.columns.now c.args.came.now _ c.if-round-eq1.true c.if-round-lt18446744073709551615.true
    c.in_ok-push_all_falls.ensures
