use Rattle.std.proofs.Common.{ℕ, ◌+◌, ◌-◌, ◌/◌, pos, ◌<◌, ◌≤◌, ◌≡◌, false, length, get_or, arith, sym, ◌∙◌, subst}
use Rattle.std.proofs.lemmas.List.{get_or_default}
use Rattle.bale_items.specs.declared.triple.Triple.{Triple}
use Rattle.mtx_text.specs.Cells.{comes_before}
use Rattle.mtx_text.proofs.Nearest.{all_before, first_is}
use Rattle.mtx_text.proofs.cells.find_first.Goals as goal

pub returns : goal.returns
returns c =
    let cells = c.args.cells.now in
    let low = c.loop-low.low in
    let met : c.loop-low.high ≡ low = omega (arith, c.loop-low.invariant.order) in
    c.cell_at.ensures
    ∙ sym (first_is c.args.i c.args.j cells low (λ k d l m. c.loop-low.invariant.before k d l)
    (λ d l. subst (λ n. comes_before (get_or cells n d).i (get_or cells n d).j c.args.i c.args.j ≡ false) met (c.loop-low.invariant.from d (omega arith))))

pub loop-low-preserved-then-comes_before : goal.loop-low-preserved-then-comes_before
loop-low-preserved-then-comes_before c =
    let cells = c.args.cells.now in
    let m : ℕ = c.loop-low.low + (c.loop-low.high - c.loop-low.low) / 2 in
    let below : m + 1 ≤ c.loop-low.high = omega arith in
    let inside : m < length cells = omega (arith, c.loop-low.invariant.within) in
    let z : Triple = record { i = 0; j = 0; v = pos 0 } in
    record {
      order = below;
      within = c.loop-low.invariant.within;
      before = λ k d l. all_before c.args.i c.args.j cells m k (get_or cells m z) d c.requires inside (get_or_default cells m z (get_or cells m z) inside)
          (sym c.comes_before.ensures ∙ c.if-comes_before.true) (omega arith);
      from = c.loop-low.invariant.from;
    }
