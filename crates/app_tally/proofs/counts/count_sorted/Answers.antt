use Rattle.std.proofs.Common.{◌≡◌, ◌<◌, [], false, All, length, map, get_or, sym, subst}
use Rattle.std.proofs.Common.{is_gt}
use Rattle.std.proofs.lemmas.List.{length-map}
use Rattle.list_laws.proofs.Lists.{all_get}
use Rattle.app_tally.specs.Counts.{by_bytes, Entry}
use Rattle.app_tally.specs.code.CountView.{IsLineEntry}
use Rattle.app_tally.proofs.Counted.{map_at, none_greater, counted_take}
use Rattle.app_tally.proofs.counts.count_sorted.Goals as goal

pub count-requires-clause-last : goal.count-requires-clause-last
count-requires-clause-last c =
    let low : c.loop-line.line-index < length (map (λ l. (l.1.now, l.2)) c.args.sorted.now) = subst (λ n. c.loop-line.line-index < n) (sym (length-map c.args.sorted.now (λ l. (l.1.now, l.2)))) c.loop-line-test.true in
    subst (All (λ (e : Entry). is_gt (by_bytes e.0 (get_or c.args.sorted.now c.loop-line.line-index (0, record { ref_ptr = (0, 0); now = [] }, 0)).1.now) ≡ false)) (sym c.loop-line.invariant.1)
    (none_greater (map (λ l. (l.1.now, l.2)) c.args.sorted.now) c.loop-line.line-index _ _ c.requires.order low (map_at (λ l. (l.1.now, l.2)) c.args.sorted.now c.loop-line.line-index _ c.loop-line-test.true))

pub count-requires-clause-some : goal.count-requires-clause-some
count-requires-clause-some c =
    (all_get IsLineEntry (map (λ l. (l.1.now, l.2)) c.args.sorted.now) c.loop-line.line-index _ c.requires.counted (map_at (λ l. (l.1.now, l.2)) c.args.sorted.now c.loop-line.line-index _ c.loop-line-test.true)).1

pub count-requires-clause-short : goal.count-requires-clause-short
count-requires-clause-short c =
    (all_get IsLineEntry (map (λ l. (l.1.now, l.2)) c.args.sorted.now) c.loop-line.line-index _ c.requires.counted (map_at (λ l. (l.1.now, l.2)) c.args.sorted.now c.loop-line.line-index _ c.loop-line-test.true)).0.short

pub loop-line-preserved : goal.loop-line-preserved
loop-line-preserved c =
    let low : c.loop-line.line-index < length (map (λ l. (l.1.now, l.2)) c.args.sorted.now) = subst (λ n. c.loop-line.line-index < n) (sym (length-map c.args.sorted.now (λ l. (l.1.now, l.2)))) c.loop-line-test.true in (
      c.in_ok-count.ensures.counts,
      counted_take (map (λ l. (l.1.now, l.2)) c.args.sorted.now) c.loop-line.line-index _ _ _ _ low (map_at (λ l. (l.1.now, l.2)) c.args.sorted.now c.loop-line.line-index _ c.loop-line-test.true) c.loop-line.invariant.1 c.in_ok-count.ensures.counted,
    )
