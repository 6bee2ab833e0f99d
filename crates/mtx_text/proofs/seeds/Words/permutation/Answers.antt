use Rattle.std.proofs.Common.{ℕ, ◌+◌, ◌-◌, ◌%◌, ◌<◌, ◌≡◌, length, arith, rules, sym, ap, ap₂, ◌∙◌, subst}
use Rattle.std.specs.List.{range_with_len, swap}
use Rattle.std.proofs.lemmas.List.FromFn.{length-range_with_len}
use Rattle.std.proofs.lemmas.List.Sorted.{IsPermutation-refl}
use Rattle.std.proofs.lemmas.Nat.{mod_below}
use Rattle.mtx_text.specs.Permutations.{Permutes}
use Rattle.mtx_text.specs.Seeds.{shuffle_of}
use Rattle.mtx_text.proofs.Shuffles.{shuffled_step, permutes_swap}
use Rattle.mtx_text.proofs.seeds.Words.permutation.Goals as goal

pub loop-i-init : goal.loop-i-init
loop-i-init c =
    let n = c.args.n in
    let list = c.in_ok-list.list in
    let e : list.items ≡ range_with_len 0 n = c.in_ok-list.ensures in
    record {
      size = list.ok.0 ∙ ap length e ∙ length-range_with_len 0 n;
      high = omega arith;
      left = ap (λ ks. shuffle_of (n - 1) ks c.args.self.now) e;
      permutes = subst (Permutes n) (sym e) (IsPermutation-refl (range_with_len 0 n));
    }

pub loop-i-preserved : goal.loop-i-preserved
loop-i-preserved c =
    let i = c.loop-i.i in
    let list = c.loop-i.list in
    let other : ℕ = c.draw.result % (i - 1 + 1) in
    let low : other < i = omega (arith, mod_below c.draw.result (i - 1 + 1) (omega arith)) in
    let e : c.swap.new.self.items ≡ swap list.items (i - 1) other = search rules in
    record {
      size = search rules;
      high = omega (arith, c.loop-i.invariant.high);
      left =
          ap₂ (λ ks s. shuffle_of (i - 1 - 1) ks s) (e ∙ ap (λ w. swap list.items (i - 1) (w % (i - 1 + 1))) c.draw.ensures.word) c.draw.ensures.state
          ∙ sym (shuffled_step i list.items c.loop-i.self c.loop-i-test.true)
          ∙ c.loop-i.invariant.left;
      permutes = subst (Permutes c.args.n) (sym e)
          (permutes_swap c.args.n list.items (i - 1) other (omega (arith, c.loop-i.invariant.high)) (omega (arith, c.loop-i.invariant.high)) c.loop-i.invariant.permutes);
    }
