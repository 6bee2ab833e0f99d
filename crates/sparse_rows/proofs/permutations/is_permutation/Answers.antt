use Rattle.std.proofs.Common.{◌<◌, ◌≡◌, false, true, refl, length, get_or, take, arith, sym, ap, ◌∙◌, rules}
use Rattle.std.proofs.lemmas.Bool.{false≢true}
use Rattle.std.proofs.lemmas.List.{get_or_read_under}
use Rattle.std.proofs.lemmas.List.Elements.{All-more, All-get_or}
use Rattle.mtx_text.proofs.Bands.{as_many, all_below}
use Rattle.sparse_rows.proofs.Doubles.{times, comes_twice, marks_more, walked, one_if}
use Rattle.sparse_rows.proofs.permutations.is_permutation.Goals as goal

pub returns-then-p-n : goal.returns-then-p-n
returns-then-p-n c = (λ e. absurd (false≢true e), λ h. absurd (c.if-p-n.true (as_many c.args.n c.args.p.now h)))

pub returns-then-at-len : goal.returns-then-at-len
returns-then-at-len c =
    let p = c.args.p.now in
    let i = c.loop-x.x-index in (
      λ e. absurd (false≢true e),
      λ h.
          let low : get_or p i 0 < c.args.n = All-get_or (λ x. x < c.args.n) p i 0 c.loop-x-test.true (all_below c.args.n p h) in
          absurd (omega arith),
    )

pub returns-then-index : goal.returns-then-index
returns-then-index c =
    let p = c.args.p.now in
    let i = c.loop-x.x-index in
    let seen = c.loop-x.seen in
    let low : get_or p i 0 < length p = omega arith in
    let marked : get_or seen.items (get_or p i 0) false ≡ true =
    sym (get_or_read_under seen.items (get_or p i 0) seen.len _ false c.index.ensures (omega arith) seen.ok.0) ∙ c.if-index.true in
    let before : times (get_or p i 0) (take i p) ≡ 1 = c.loop-x.invariant.marks (get_or p i 0) low ∙ ap one_if marked in
    (λ e. absurd (false≢true e), λ h. absurd (comes_twice c.args.n p i c.loop-x-test.true before h))

pub loop-x-preserved : goal.loop-x-preserved
loop-x-preserved c =
    let p = c.args.p.now in
    let i = c.loop-x.x-index in
    let seen = c.loop-x.seen in
    let low : get_or p i 0 < length p = omega arith in
    let whole : seen.len ≡ length seen.items = seen.ok.0 in
    let new : get_or seen.items (get_or p i 0) false ≡ false =
    sym (get_or_read_under seen.items (get_or p i 0) seen.len _ false c.index.ensures (omega arith) whole) ∙ c.if-index.false in
    record {
      len = search rules;
      below = All-more (λ x. x < length p) p i 0 c.loop-x-test.true c.loop-x.invariant.below low;
      marks = λ v l. marks_more p seen.items i c.loop-x-test.true (omega arith) new v (c.loop-x.invariant.marks v l);
    }

pub returns : goal.returns
returns c =
    (λ e. walked c.args.n c.args.p.now c.loop-x.seen.items c.loop-x.x-index (search rules) (search rules) c.loop-x.invariant.below c.loop-x.invariant.marks, λ h. refl)
