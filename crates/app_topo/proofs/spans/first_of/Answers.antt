use Rattle.std.proofs.Common.{ℕ, ◌+◌, ◌-◌, ◌/◌, ◌<◌, ◌≤◌, length, get_or, arith, subst}
use Rattle.app_topo.proofs.TopoLists.{rows_rise, row_same}
use Rattle.app_topo.proofs.spans.first_of.Goals as goal

pub loop-low-preserved-then-columns-middle : goal.loop-low-preserved-then-columns-middle
loop-low-preserved-then-columns-middle c =
    let m : ℕ = c.loop-low.low + (c.loop-low.high - c.loop-low.low) / 2 in
    let below : m + 1 ≤ c.loop-low.high = omega arith in
    let inside : m < length c.args.columns.now = omega (arith, c.loop-low.invariant.within) in
    record {
      order = below;
      within = c.loop-low.invariant.within;
      before = λ k d l. (let up : (get_or c.args.columns.now k d).i ≤ (get_or c.args.columns.now m d).i = rows_rise c.args.columns.now k m d c.requires (omega arith) inside in
          let low : (get_or c.args.columns.now m d).i < c.args.c = subst (λ i. i < c.args.c) (row_same c.args.columns.now m _ d inside) c.if-columns-middle.true in omega arith);
      from = c.loop-low.invariant.from;
    }

pub loop-low-preserved : goal.loop-low-preserved
loop-low-preserved c =
    let m : ℕ = c.loop-low.low + (c.loop-low.high - c.loop-low.low) / 2 in
    let inside : m < length c.args.columns.now = omega (arith, c.loop-low.invariant.within) in
    record {
      order = omega arith;
      within = omega arith;
      before = c.loop-low.invariant.before;
      from = λ k d up l. (let rise : (get_or c.args.columns.now m d).i ≤ (get_or c.args.columns.now k d).i = rows_rise c.args.columns.now m k d c.requires up l in
          let high : c.args.c ≤ (get_or c.args.columns.now m d).i = subst (λ i. c.args.c ≤ i) (row_same c.args.columns.now m _ d inside) c.if-columns-middle.false in omega arith);
    }
