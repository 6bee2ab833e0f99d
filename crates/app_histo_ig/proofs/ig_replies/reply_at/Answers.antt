use Rattle.std.proofs.Common.{◌≡◌, ◌+◌, ◌-◌, ◌<◌, ◌≤◌, ◌/◌, ◌^◌, All, Some, length, map, slice_get, refl, sym, ap, subst, ◌∙◌, arith}
use Rattle.std.proofs.lemmas.List.{length-map}
use Rattle.std.proofs.lemmas.Option.{slice_get_read}
use Rattle.bale_items.specs.declared.item.Item.{Item}
use Rattle.list_laws.proofs.Lists.{all_get, get_map, get_before}
use Rattle.app_histo_ig.specs.Igs.{ig_reply_to}
use Rattle.app_histo_ig.proofs.IgReplies.{from_list, list_first, count_first, get_behind}
use Rattle.app_histo_ig.proofs.ig_replies.reply_at.Goals.{After-len-count}
use Rattle.app_histo_ig.proofs.ig_replies.reply_at.Goals as goal

-- the list of a sender
list : (c : After-len-count) → slice_get (map (λ l. l.items) c.args.queries.now) c.loop-from.from ≡ Some c.index-queries-from.result.items
list c =
    let qs = c.args.queries.now in
    get_map (λ l. l.items) qs c.loop-from.from c.index-queries-from.result (slice_get_read qs (length qs) c.loop-from.from c.index-queries-from.result refl c.loop-from-test.true c.index-queries-from.is)

pub reply_of-requires-clause-asked : goal.reply_of-requires-clause-asked
reply_of-requires-clause-asked c =
    subst (All (λ (x : Item). (x.a < 2 ^ 32) × (x.a / c.args.ranks < length c.args.sums.now))) (sym c.deref.ensures.value)
    (all_get (All (λ (x : Item). (x.a < 2 ^ 32) × (x.a / c.args.ranks < length c.args.sums.now))) (map (λ l. l.items) c.args.queries.now) c.loop-from.from c.index-queries-from.result.items c.requires.can.asked
    (list (goal.at.reply_of-requires-clause-asked c).After-len-count))

pub returns-then-left-count : goal.returns-then-left-count
returns-then-left-count c =
    let qs = map (λ l. l.items) c.args.queries.now in
    let q = c.index-queries-from.result.items in
    let k = c.loop-from.from in
    let size = length-map q (ig_reply_to c.args.ranks c.args.sums.now k) in
    let low : c.loop-from.left < length (map (ig_reply_to c.args.ranks c.args.sums.now k) q) = omega (arith, size, c.if-left-count.true, c.len-count.ensures, c.index-queries-from.result.ok.0) in
    sym c.loop-from.invariant.here
    ∙ ap (λ l. slice_get l c.loop-from.left) (list_first c.args.ranks c.args.sums.now qs k q (list (goal.at.returns-then-left-count c).After-len-count))
    ∙ get_before (map (ig_reply_to c.args.ranks c.args.sums.now k) q) (from_list c.args.ranks c.args.sums.now qs (k + 1)) c.loop-from.left low
    ∙ subst (λ l. slice_get (map (ig_reply_to c.args.ranks c.args.sums.now k) l) c.loop-from.left ≡ Some (k, c.reply_of.result)) c.deref.ensures.value (c.reply_of.ensures k)

pub loop-from-preserved : goal.loop-from-preserved
loop-from-preserved c =
    let qs = map (λ l. l.items) c.args.queries.now in
    let q = c.index-queries-from.result.items in
    let k = c.loop-from.from in
    let is = list (goal.at.loop-from-preserved c).After-len-count in
    let size = length-map q (ig_reply_to c.args.ranks c.args.sums.now k) in
    let count : c.len-count.result ≡ length (map (ig_reply_to c.args.ranks c.args.sums.now k) q) = omega (arith, size, c.len-count.ensures, c.index-queries-from.result.ok.0) in
    let high : length (map (ig_reply_to c.args.ranks c.args.sums.now k) q) ≤ c.loop-from.left = omega (arith, count, c.if-left-count.false) in
    record {
      here = ap (λ n. slice_get (from_list c.args.ranks c.args.sums.now qs (k + 1)) (c.loop-from.left - n)) count
          ∙ sym (get_behind (map (ig_reply_to c.args.ranks c.args.sums.now k) q) (from_list c.args.ranks c.args.sums.now qs (k + 1)) c.loop-from.left high)
          ∙ sym (ap (λ l. slice_get l c.loop-from.left) (list_first c.args.ranks c.args.sums.now qs k q is))
          ∙ c.loop-from.invariant.here;
      within = omega (arith, c.loop-from.invariant.within, count_first c.args.ranks c.args.sums.now qs k q is, size, count, high);
    }
