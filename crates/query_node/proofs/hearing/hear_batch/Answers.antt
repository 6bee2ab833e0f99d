use Rattle.std.proofs.Common.{◌≡◌, get_or, refl, sym, ap, subst, arith}
use Rattle.std.proofs.lemmas.Option.{slice_get-get_or}
use Rattle.bale_items.specs.declared.item.Entry.{Entry}
use Rattle.route_tensor.specs.Grid.{ranks}
use Rattle.port_bank.specs.Machine.{ItemLists}
use Rattle.hop_core.specs.State.{State, pulls}
use Rattle.hop_core.proofs.Going.{no_entry}
use Rattle.convey.specs.Buffers.{buffers_of}
use Rattle.convey.specs.Parts.{part_of}
use Rattle.query_node.specs.Taking.{HasHeard}
use Rattle.query_node.proofs.Heard.{taking_next}
use Rattle.query_node.proofs.hearing.hear_batch.Goals as goal

pub hear_one-requires-clause-from : goal.hear_one-requires-clause-from
hear_one-requires-clause-from g c =
    let e : Entry = get_or c.batch-entry-items.result.now c.loop-entry.entry-index no_entry in
    let next = c.batch-entry-items.ensures.gives c.loop-entry.entry-index e (slice_get-get_or c.batch-entry-items.result.now c.loop-entry.entry-index no_entry c.loop-entry-test.true) in
    let h = c.requires.may.heard in
    let mid = c.loop-entry.invariant.hears.on h.0 h.1 h.2 h.3 h.4 in
    let dims : ranks (pulls c.loop-entry.entry-index c.args.replies.now).dims ≡ ranks c.args.replies.now.dims = ap (λ (t : State). ranks t.dims) c.loop-entry.invariant.hears.same in
    omega (arith, next.sender, c.sender_of-from.ensures, mid.all, dims)

pub hear_one-requires-clause-heard : goal.hear_one-requires-clause-heard
hear_one-requires-clause-heard g c =
    let h = c.requires.may.heard in
    let mid = c.loop-entry.invariant.hears.on h.0 h.1 h.2 h.3 h.4 in
    let came : ItemLists = (part_of (buffers_of (pulls c.loop-entry.entry-index c.args.replies.now)) h.1 h.2).pulled in
    (h.0, came, subst (λ p. HasHeard g.A.Asker.talk h.0 p c.loop-entry.asker.value c.loop-entry.lines.items came) (sym mid.all) mid)

pub loop-entry-preserved : goal.loop-entry-preserved
loop-entry-preserved g c =
    let e : Entry = get_or c.batch-entry-items.result.now c.loop-entry.entry-index no_entry in
    let next = c.batch-entry-items.ensures.gives c.loop-entry.entry-index e (slice_get-get_or c.batch-entry-items.result.now c.loop-entry.entry-index no_entry c.loop-entry-test.true) in
    taking_next g.A.Asker.talk c.args.asker.now.value c.loop-entry.asker.value c.hear_one.new.asker.value c.args.lines.now.items c.loop-entry.lines.items c.hear_one.new.lines.items c.loop-entry.entry-index
    _ c.sender_of-from.result e.item.a e.item c.args.replies.now c.requires.may.first c.loop-entry.invariant next c.sender_of-from.ensures refl c.hear_one.ensures
