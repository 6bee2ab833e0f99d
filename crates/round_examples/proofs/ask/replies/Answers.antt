use Rattle.std.proofs.Common.{length, refl, sym, subst, All, map}
use Rattle.std.proofs.lemmas.Option.{slice_get_read}
use Rattle.list_laws.proofs.Lists.{all_get, get_map}
use Rattle.round_examples.specs.Asks.{IsAskQuery}
use Rattle.round_examples.proofs.ask.replies.Goals as goal

pub reply_all-requires : goal.reply_all-requires
reply_all-requires c =
    let qs = c.args.queries.now in
    let q = c.index-queries-from.result in
    subst (All (IsAskQuery (length c.args.table.now))) (sym c.deref.ensures.value)
    (all_get (All (IsAskQuery (length c.args.table.now))) (map (λ l. l.items) qs) c.loop-from.from q.items c.requires.asked
    (get_map (λ l. l.items) qs c.loop-from.from q (slice_get_read qs (length qs) c.loop-from.from q refl c.loop-from-test.true c.index-queries-from.is)))
