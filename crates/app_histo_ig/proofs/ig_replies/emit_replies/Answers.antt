use Rattle.std.proofs.Common.{◌≡◌, ◌+◌, ◌-◌, ◌<◌, ◌≤◌, ◌/◌, ◌^◌, ◌++◌, All, Some, drop, length, map, slice_get, refl, sym, ap, subst, ◌∙◌, arith}
use Rattle.std.proofs.lemmas.List.{length-map}
use Rattle.std.proofs.lemmas.Option.{slice_get_read}
use Rattle.bale_items.specs.declared.item.Item.{Item}
use Rattle.list_laws.proofs.Lists.{all_get, get_map}
use Rattle.round_program.proofs.Emissions.{Reaches, reaches_none, none_at, nothing_left}
use Rattle.app_histo_ig.specs.Igs.{ig_reply_to}
use Rattle.app_histo_ig.proofs.IgReplies.{from_list, list_first, no_list, left_behind, handed_list, handed_part, may_here, ends_within}
use Rattle.app_histo_ig.proofs.ig_replies.emit_replies.Given.{Over}
use Rattle.app_histo_ig.proofs.ig_replies.emit_replies.Goals.{After-len, After-deref}
use Rattle.app_histo_ig.proofs.ig_replies.emit_replies.Goals as goal

-- a sender's list, and the replies from it on
list : (g : Over) (c : After-len g) → slice_get (map (λ l. l.items) c.args.queries.now) c.loop-to.to ≡ Some c.index-queries-to.result.items
list g c =
    let qs = c.args.queries.now in
    get_map (λ l. l.items) qs c.loop-to.to c.index-queries-to.result (slice_get_read qs (length qs) c.loop-to.to c.index-queries-to.result refl c.loop-to-test.true c.index-queries-to.is)

split : (g : Over) (c : After-len g) → drop c.loop-to.first (from_list c.args.ranks c.args.sums.now (map (λ l. l.items) c.args.queries.now) 0)
    ≡ map (ig_reply_to c.args.ranks c.args.sums.now c.loop-to.to) c.index-queries-to.result.items ++ from_list c.args.ranks c.args.sums.now (map (λ l. l.items) c.args.queries.now) (c.loop-to.to + 1)
split g c = c.loop-to.invariant.rest ∙ list_first c.args.ranks c.args.sums.now (map (λ l. l.items) c.args.queries.now) c.loop-to.to c.index-queries-to.result.items (list g c)

within : (g : Over) (c : After-len g) → c.loop-to.first + c.len.result ≤ length (from_list c.args.ranks c.args.sums.now (map (λ l. l.items) c.args.queries.now) 0)
within g c =
    omega (
      arith,
      c.len.ensures,
      c.index-queries-to.result.ok.0,
      ends_within c.args.ranks c.args.sums.now c.loop-to.to c.index-queries-to.result.items _ _ c.loop-to.first (split g c) c.loop-to.invariant.whole,
    )

pub overflow_add-end : goal.overflow_add-end
overflow_add-end g c = omega (arith, within g (goal.at.overflow_add-end g c).After-len, c.requires.count, c.ranges.count.fits)

pub returns-then-from-count : goal.returns-then-from-count
returns-then-from-count g c = record {
  forward = omega arith;
  low = c.requires.may.from_within;
  hands =
      let es = from_list c.args.ranks c.args.sums.now (map (λ l. l.items) c.args.queries.now) 0 in
      none_at g.D.Departures.hands es c.args.from c.args.from c.args.out.now c.args.out.now (omega (arith, c.requires.count, c.if-from-count.true)) (reaches_none g.D.Departures.hands es c.args.from c.args.out.now);
}

-- the same of the list as it is lent
split_lent : (g : Over) (c : After-deref g) → drop c.loop-to.first (from_list c.args.ranks c.args.sums.now (map (λ l. l.items) c.args.queries.now) 0)
    ≡ map (ig_reply_to c.args.ranks c.args.sums.now c.loop-to.to) c.deref.result.now ++ from_list c.args.ranks c.args.sums.now (map (λ l. l.items) c.args.queries.now) (c.loop-to.to + 1)
split_lent g c =
    split g (goal.at.After-deref g c).After-len ∙ ap (λ l. map (ig_reply_to c.args.ranks c.args.sums.now c.loop-to.to) l ++ from_list c.args.ranks c.args.sums.now (map (λ l. l.items) c.args.queries.now) (c.loop-to.to + 1)) (sym c.deref.ensures.value)

size : (g : Over) (c : After-deref g) → length (map (ig_reply_to c.args.ranks c.args.sums.now c.loop-to.to) c.deref.result.now) ≡ c.len.result
size g c = length-map c.deref.result.now (ig_reply_to c.args.ranks c.args.sums.now c.loop-to.to) ∙ omega (arith, ap length c.deref.ensures.value, c.len.ensures, c.index-queries-to.result.ok.0)

pub emit_to-requires-clause-asked : goal.emit_to-requires-clause-asked
emit_to-requires-clause-asked g c =
    subst (All (λ (x : Item). (x.a < 2 ^ 32) × (x.a / c.args.ranks < length c.args.sums.now))) (sym c.deref.ensures.value)
    (all_get (All (λ (x : Item). (x.a < 2 ^ 32) × (x.a / c.args.ranks < length c.args.sums.now))) (map (λ l. l.items) c.args.queries.now) c.loop-to.to c.index-queries-to.result.items c.requires.can.asked
    (list g (goal.at.emit_to-requires-clause-asked g c).After-len))

pub emit_to-requires-clause-may : goal.emit_to-requires-clause-may
emit_to-requires-clause-may g c = λ some.
    let w = (goal.at.emit_to-requires-clause-may g c).After-deref in
    may_here (g.D.Departures.may c.loop-to.out) c.args.ranks c.args.sums.now c.loop-to.to c.deref.result.now _ _ c.args.from c.loop-to.first c.loop-to.next _ c.loop-to.invariant.forward (split_lent g w) c.loop-to.invariant.behind
    (omega (arith, c.min.ensures, size g w, length-map c.deref.result.now (ig_reply_to c.args.ranks c.args.sums.now c.loop-to.to))) some c.loop-to.invariant.may

pub overflow_add-handed : goal.overflow_add-handed
overflow_add-handed g c =
    let w = (goal.at.overflow_add-handed g c).After-deref in
    omega (arith, within g (goal.at.overflow_add-handed g c).After-len, c.requires.count, c.ranges.count.fits, c.emit_to.ensures.low, size g w, length-map c.deref.result.now (ig_reply_to c.args.ranks c.args.sums.now c.loop-to.to))

pub returns-then-handed-end : goal.returns-then-handed-end
returns-then-handed-end g c = record {
  forward = omega (arith, c.loop-to.invariant.forward, c.loop-to.invariant.behind, c.min.ensures, c.emit_to.ensures.forward, c.if-handed-end.true);
  low = omega (arith, within g (goal.at.returns-then-handed-end g c).After-len, c.if-handed-end.true);
  hands =
      let w = (goal.at.returns-then-handed-end g c).After-deref in
      let i = c.loop-to.invariant in
      handed_part g.D.Departures.hands _ (map (ig_reply_to c.args.ranks c.args.sums.now c.loop-to.to) c.deref.result.now) _ c.args.from c.loop-to.first c.loop-to.next (c.min.result - c.loop-to.first) c.emit_to.result c.args.out.now c.loop-to.out c.emit_to.new.out
      i.forward (split_lent g w) i.behind (omega (arith, c.min.ensures, size g w)) c.emit_to.ensures.forward (omega (arith, size g w, c.if-handed-end.true)) c.emit_to.ensures.hands i.reaches;
}

pub loop-to-preserved : goal.loop-to-preserved
loop-to-preserved g c =
    let w = (goal.at.loop-to-preserved g c).After-deref in
    let i = c.loop-to.invariant in
    let es = from_list c.args.ranks c.args.sums.now (map (λ l. l.items) c.args.queries.now) 0 in
    let xs = map (ig_reply_to c.args.ranks c.args.sums.now c.loop-to.to) c.deref.result.now in
    let rest = from_list c.args.ranks c.args.sums.now (map (λ l. l.items) c.args.queries.now) (c.loop-to.to + 1) in
    let inside = within g (goal.at.loop-to-preserved g c).After-len in
    record {
      rest = subst (λ n. drop (c.loop-to.first + n) es ≡ rest) (size g w) (left_behind es xs rest c.loop-to.first (split_lent g w));
      whole = inside;
      forward = omega (arith, i.forward, c.max-next.ensures);
      low = omega (arith, i.low, c.max-next.ensures, inside);
      behind = omega (arith, c.max-next.ensures);
      may = λ k d l. c.emit_to.ensures.may _ (i.may k d l);
      reaches = subst (λ n. Reaches g.D.Departures.hands es c.args.from n c.args.out.now c.emit_to.new.out) (omega (arith, c.max-next.ensures, size g w))
          (handed_list g.D.Departures.hands es xs rest c.args.from c.loop-to.first c.loop-to.next (c.min.result - c.loop-to.first) c.emit_to.result c.args.out.now c.loop-to.out c.emit_to.new.out
          i.forward (split_lent g w) i.behind (omega (arith, c.min.ensures, size g w))
          (omega (arith, size g w, c.if-handed-end.false, c.emit_to.ensures.low, length-map c.deref.result.now (ig_reply_to c.args.ranks c.args.sums.now c.loop-to.to))) c.emit_to.ensures.hands i.reaches);
    }

pub returns : goal.returns
returns g c = record {
  forward = c.loop-to.invariant.forward;
  low = c.loop-to.invariant.low;
  hands =
      let qs = map (λ l. l.items) c.args.queries.now in
      let over = c.loop-to.invariant.rest ∙ no_list c.args.ranks c.args.sums.now qs c.loop-to.to (omega (arith, c.loop-to-test.false, length-map c.args.queries.now (λ l. l.items))) in
      none_at g.D.Departures.hands (from_list c.args.ranks c.args.sums.now qs 0) c.args.from c.loop-to.next c.args.out.now c.loop-to.out
      (omega (arith, nothing_left (from_list c.args.ranks c.args.sums.now qs 0) c.loop-to.first over, c.loop-to.invariant.behind)) c.loop-to.invariant.reaches;
}
