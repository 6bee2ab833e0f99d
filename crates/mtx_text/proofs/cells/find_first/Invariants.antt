use Rattle.std.proofs.Common.{ℕ, ◌-◌, ◌≡◌, ◌<◌, ◌≤◌, true, false, length, get_or}
use Rattle.bale_items.specs.declared.triple.Triple.{Triple}
use Rattle.mtx_text.specs.Cells.{comes_before}
use Rattle.mtx_text.proofs.cells.find_first.Given as goal

abbrev pub invariant-loop-low : goal.invariant-loop-low
invariant-loop-low l = record {
  order : l.low ≤ l.high;
  within : l.high ≤ length l.cells;
  before : (k : ℕ) (d : Triple) → k < l.low → comes_before (get_or l.cells k d).i (get_or l.cells k d).j l.i l.j ≡ true;
  from : (d : Triple) → l.high < length l.cells → comes_before (get_or l.cells l.high d).i (get_or l.cells l.high d).j l.i l.j ≡ false;
}

abbrev pub decreases-loop-low : goal.decreases-loop-low
decreases-loop-low l = l.high - l.low
