use Rattle.std.proofs.Common.{◌≡◌, List, take}
use Rattle.bale_items.specs.declared.triple.Triple.{Triple}
use Rattle.mtx_text.specs.Cells.{InOrder, raised_all, first_from}
use Rattle.mtx_text.proofs.cells.nearest.Given as goal

abbrev pub invariant-loop-t : goal.invariant-loop-t
invariant-loop-t l =
    (cells : List Triple) → InOrder cells → l.initial.best ≡ first_from l.i l.j cells → l.best ≡ first_from l.i l.j (raised_all cells (take l.t-index l.waiting))
