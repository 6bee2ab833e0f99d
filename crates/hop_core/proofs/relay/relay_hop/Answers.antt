use Rattle.std.proofs.Common.{◌≡◌, ◌<◌, ◌≤◌, ◌+◌, sym, subst, arith, length, sum}
use Rattle.route_tensor.specs.Neighbour.{hop_to}
use Rattle.route_tensor.specs.Link.{links_before}
use Rattle.route_tensor.proofs.Links.{sum_small}
use Rattle.hop_core.specs.Standing.{IsIn}
use Rattle.hop_core.proofs.Relaying.{relaying_more, link_open, within_waiting}
use Rattle.hop_core.proofs.Relayed.{waiting_small, in_hop, all_stopped}
use Rattle.hop_core.proofs.InTurn.{in_turn_more, in_turn_end, in_hop_end, hop_end_past}
use Rattle.hop_core.proofs.relay.relay_hop.Goals as goal

pub relay_link-count-requires : goal.relay_link-count-requires
relay_link-count-requires g c =
    let dims = c.args.routes.now.dims in
    let lo : links_before dims c.args.h ≤ c.loop-i.i = omega (arith, c.first_of-from.ensures.value, c.loop-i.auto.i) in
    let hi : c.loop-i.i < links_before dims (c.args.h + 1) = omega (arith, c.first_of-i-end.ensures.value, c.loop-i-test.true) in
    let hop : hop_to dims c.loop-i.i ≡ c.args.h = in_hop dims c.args.h c.loop-i.i c.requires.first (omega (arith, c.requires.last)) lo hi in
    let q : c.loop-i.i < sum dims = omega (arith, c.first_of-i-end.ensures.within, c.loop-i-test.true) in
    let n : c.loop-i.i < length c.loop-i.ins.items = omega (arith, q, c.loop-i.invariant.relaying.all_ins) in
    let x : IsIn dims g.row.CAP (hop_to dims c.loop-i.i) c.index_mut.result.now =
    subst (IsIn dims g.row.CAP (hop_to dims c.loop-i.i)) (sym c.index_mut.ensures.value) (c.loop-i.invariant.relaying.each_in c.loop-i.i c.index_mut.result.now n) in (
      omega arith,
      (
        omega arith,
        (
          record {
            number = q;
            hop = omega (arith, hop, c.requires.last);
            all = c.loop-i.invariant.relaying.all_outs;
            each = c.loop-i.invariant.relaying.each_out;
          },
          (x, link_open _ _ _ _ _ _ _ _ _ _ _ q hop c.requires.all_ins c.loop-i.invariant.relaying c.index_mut.ensures.value),
        ),
      ),
    )

pub overflow_add-count : goal.overflow_add-count
overflow_add-count g c =
    let dims = c.args.routes.now.dims in
    let lo : links_before dims c.args.h ≤ c.loop-i.i = omega (arith, c.first_of-from.ensures.value, c.loop-i.auto.i) in
    let hi : c.loop-i.i < links_before dims (c.args.h + 1) = omega (arith, c.first_of-i-end.ensures.value, c.loop-i-test.true) in
    let hop : hop_to dims c.loop-i.i ≡ c.args.h = in_hop dims c.args.h c.loop-i.i c.requires.first (omega (arith, c.requires.last)) lo hi in
    let q : c.loop-i.i < sum dims = omega (arith, c.first_of-i-end.ensures.within, c.loop-i-test.true) in
    let n : c.loop-i.i < length c.loop-i.ins.items = omega (arith, q, c.loop-i.invariant.relaying.all_ins) in
    let most = waiting_small dims g.row.CAP c.args.ins.now.items c.requires.small c.requires.all_ins (sum_small dims c.first_of-from.ensures.grid) c.requires.each_in in
    omega (arith, most, c.loop-i.invariant.relaying.count, within_waiting c.loop-i.ins.items c.loop-i.i c.index_mut.result.now n c.index_mut.ensures.value, c.relay_link-count.ensures.count)

pub loop-i-preserved : goal.loop-i-preserved
loop-i-preserved g c =
    let dims = c.args.routes.now.dims in
    let lo : links_before dims c.args.h ≤ c.loop-i.i = omega (arith, c.first_of-from.ensures.value, c.loop-i.auto.i) in
    let hi : c.loop-i.i < links_before dims (c.args.h + 1) = omega (arith, c.first_of-i-end.ensures.value, c.loop-i-test.true) in
    let hop : hop_to dims c.loop-i.i ≡ c.args.h = in_hop dims c.args.h c.loop-i.i c.requires.first (omega (arith, c.requires.last)) lo hi in
    let q : c.loop-i.i < sum dims = omega (arith, c.first_of-i-end.ensures.within, c.loop-i-test.true) in
    record {
      relaying = relaying_more _ _ _ _ _ _ _ _ _ _ _ _ _ _ q hop c.loop-i.invariant.relaying c.index_mut.ensures.value (record {
        each = c.relay_link-count.ensures.each;
        link = c.relay_link-count.ensures.link;
        passes = c.relay_link-count.ensures.passes_on;
        adds = c.relay_link-count.ensures.adds;
        rest = c.relay_link-count.ensures.rest;
        count = c.relay_link-count.ensures.count;
        ended = c.relay_link-count.ensures.ended;
        stopped = c.relay_link-count.ensures.stopped;
      });
      in_turn = in_turn_more _ _ _ _ _ _ _ _ _ _ _ _ c.loop-i.invariant.in_turn (in_hop_end dims c.args.h c.loop-i.i c.requires.first (omega (arith, c.requires.last)) hi) (omega (arith, q, c.loop-i.invariant.relaying.all_ins))
          c.index_mut.ensures.value c.relay_link-count.ensures.outs c.relay_link-count.ensures.ins;
    }

pub returns-clause-relays : goal.returns-clause-relays
returns-clause-relays g c =
    let e : links_before c.args.routes.now.dims (c.args.h + 1) ≤ c.loop-i.i = omega (arith, c.first_of-i-end.ensures.value, c.loop-i-test.false) in
    let done = c.loop-i.invariant.relaying in
    record {
      held = done.held;
      adds = done.adds;
      takes = done.takes;
      stopped = all_stopped _ _ _ _ _ _ _ _ _ _ c.requires.first (omega (arith, c.requires.last)) e done;
      count = done.count;
      in_turn = in_turn_end _ _ _ _ _ _ _ _ _ c.loop-i.invariant.in_turn (hop_end_past c.args.routes.now.dims c.args.h c.loop-i.i c.requires.first (omega (arith, c.requires.last)) e);
    }
