use Rattle.std.proofs.Common.{ℕ, ◌-◌, ◌<◌, ◌≤◌, length, get_or}
use Rattle.bale_items.specs.declared.triple.Triple.{Triple}
use Rattle.app_topo.proofs.spans.first_of.Given as goal

abbrev pub invariant-loop-low : goal.invariant-loop-low
invariant-loop-low l = record {
  order : l.low ≤ l.high;
  within : l.high ≤ length l.columns;
  before : (k : ℕ) (d : Triple) → k < l.low → (get_or l.columns k d).i < l.c;
  from : (k : ℕ) (d : Triple) → l.high ≤ k → k < length l.columns → l.c ≤ (get_or l.columns k d).i;
}

abbrev pub decreases-loop-low : goal.decreases-loop-low
decreases-loop-low l = l.high - l.low
