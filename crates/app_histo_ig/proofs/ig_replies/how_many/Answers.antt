use Rattle.std.proofs.Common.{◌≡◌, length, map, refl, ap, arith}
use Rattle.std.specs.Prelude.{vec_len}
use Rattle.std.proofs.lemmas.List.{length-map}
use Rattle.std.proofs.lemmas.Option.{slice_get_read}
use Rattle.list_laws.proofs.Lists.{get_map}
use Rattle.app_histo_ig.proofs.IgReplies.{count_first, no_list}
use Rattle.app_histo_ig.proofs.ig_replies.how_many.Goals as goal

pub loop-list-preserved : goal.loop-list-preserved
loop-list-preserved c = λ ranks sums.
    let qs = c.args.queries.now in
    let q = c.list-item.result in
    let size : vec_len q ≡ length q.items = omega (arith, q.ok.0) in
    omega (
      arith,
      c.loop-list.invariant ranks sums,
      c.len-more.ensures,
      size,
      count_first ranks sums (map (λ l. l.items) qs) c.loop-list.list-index q.items (get_map (λ l. l.items) qs c.loop-list.list-index q (slice_get_read qs (length qs) c.loop-list.list-index q refl c.loop-list-test.true c.list-item.is)),
    )

pub returns : goal.returns
returns c = λ ranks sums.
    let qs = c.args.queries.now in
    omega (arith, c.loop-list.invariant ranks sums, ap length (no_list ranks sums (map (λ l. l.items) qs) c.loop-list.list-index (omega (arith, c.loop-list-test.false, length-map qs (λ l. l.items)))))
