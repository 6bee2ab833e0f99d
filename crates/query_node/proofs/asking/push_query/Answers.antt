use Rattle.std.proofs.Common.{rules, ◌≡◌, ℕ, ◌<◌, slice_get, sym, ap, subst, ◌∙◌}
use Rattle.bale_items.specs.declared.item.Item.{Item}
use Rattle.route_tensor.specs.Grid.{ranks}
use Rattle.convey.specs.Buffers.{buffers_of}
use Rattle.convey.specs.Conveyors.{open_count_toward}
use Rattle.convey.specs.Parts.{part_of}
use Rattle.list_laws.proofs.Lists.{all_get, get_once}
use Rattle.round_program.specs.Replies.{carrying, asks_of}
use Rattle.rank_node.proofs.Offered.{push_on}
use Rattle.query_node.proofs.Offering.{asked_at, full_at}
use Rattle.query_node.proofs.asking.push_query.Goals as goal

pub push-requires : goal.push-requires
push-requires g c =
    let T = g.A.Asker.talk in
    let q = c.query-to.result in
    let at = asked_at T c.args.asker.now.value c.args.next q (ap (λ t. slice_get (T.queries t) c.args.next) (sym c.deref.ensures) ∙ c.query-to.ensures) in
    (search rules, (c.requires.working, (c.requires.not_done, all_get (λ (e : ℕ × Item). e.0 < ranks c.args.conveyor.now.dims) (asks_of T c.args.asker.now.value) c.args.next (q.0, carrying q.1) c.requires.receivers at)))

pub returns-clause-accepted : goal.returns-clause-accepted
returns-clause-accepted g c = λ r sent got a.
    let T = g.A.Asker.talk in
    let q = c.query-to.result in
    let at = asked_at T c.args.asker.now.value c.args.next q (ap (λ t. slice_get (T.queries t) c.args.next) (sym c.deref.ensures) ∙ c.query-to.ensures) in
    push_on (asks_of T c.args.asker.now.value) (ranks c.args.conveyor.now.dims) c.args.next q.0 (carrying q.1)
    (part_of (buffers_of c.args.conveyor.now) sent got) (part_of (buffers_of c.push.new.self) sent got) at ((c.push.ensures.accepted r).step sent got a)

pub returns-clause-full : goal.returns-clause-full
returns-clause-full g c = λ r to x is.
    let T = g.A.Asker.talk in
    let q = c.query-to.result in
    let at = asked_at T c.args.asker.now.value c.args.next q (ap (λ t. slice_get (T.queries t) c.args.next) (sym c.deref.ensures) ∙ c.query-to.ensures) in
    let same = get_once (asks_of T c.args.asker.now.value) c.args.next (q.0, carrying q.1) (to, x) at is in
    let low = all_get (λ (e : ℕ × Item). e.0 < ranks c.args.conveyor.now.dims) (asks_of T c.args.asker.now.value) c.args.next (to, x) c.requires.receivers is in
    full_at g.row.CAP c.args.conveyor.now c.push.new.self to (c.push.ensures.full r).state low
    (subst (λ (e : ℕ × Item). open_count_toward c.args.conveyor.now e.0 ≡ g.row.CAP) same (c.push.ensures.full r).full)
