use Rattle.app_topo.proofs.TopoLists.{column_is, in_turn}
use Rattle.app_topo.proofs.spans.entries_of_column.Goals as goal

pub slice_bounds-result-count : goal.slice_bounds-result-count
slice_bounds-result-count c =
    in_turn c.args.columns.now c.args.c c.place_of-from.result c.place_of-to.result c.place_of-from.ensures.within c.place_of-from.ensures.before c.place_of-to.ensures.from

pub slice_bounds-result-start : goal.slice_bounds-result-start
slice_bounds-result-start c =
    in_turn c.args.columns.now c.args.c c.place_of-from.result c.place_of-to.result c.place_of-from.ensures.within c.place_of-from.ensures.before c.place_of-to.ensures.from

pub returns : goal.returns
returns c =
    let from = c.place_of-from.ensures in
    let to = c.place_of-to.ensures in
    column_is c.args.columns.now c.args.c c.place_of-from.result c.place_of-to.result from.within to.within from.before from.from to.before to.from
