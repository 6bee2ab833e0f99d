use Rattle.std.proofs.Common.{◌∙◌, ◌<◌, sym, ap, subst, arith, length, get_or, set, ◌+◌}
use Rattle.bale_items.specs.declared.item.Entry.{Entry}
use Rattle.list_laws.specs.Lists.{EachAt}
use Rattle.route_tensor.specs.Neighbour.{hop_to}
use Rattle.hop_core.specs.Link.{read_on}
use Rattle.hop_core.specs.Relay.{IsStopped}
use Rattle.hop_core.specs.Standing.{IsOut}
use Rattle.hop_core.proofs.Going.{no_entry, step_within, step_more, same_outs, step_stopped, read_more, read_next, by_table}
use Rattle.hop_core.proofs.InTurn.{passing_more, passing_end, passing_full}
use Rattle.hop_core.proofs.relay.pass_on.Goals as goal

pub index_mut-requires : goal.index_mut-requires
index_mut-requires g c =
    let e : Entry = get_or c.unread-entry-items.result.now c.loop-entry.entry-index no_entry in
    let w : c.passed_on-step.result.out < length c.loop-entry.outs.items = (step_within _ _ _ _ _ _ _ _ _ e _ c.known.ensures.grid c.known.ensures.rank c.requires.may.number c.requires.may.hop c.loop-entry.invariant.going
    (read_next c.unread-entry-items.result.now c.loop-entry.entry-index c.args.link.now c.unread-entry-items.ensures c.loop-entry-test.true) (by_table _ _ _ e.tag c.passed_on-step.ensures c.neighbour-from.ensures.value)).0 in
    omega (arith, w)

pub push-requires : goal.push-requires
push-requires g c =
    let e : Entry = get_or c.unread-entry-items.result.now c.loop-entry.entry-index no_entry in (
      omega arith,
      (step_within _ _ _ _ _ _ _ _ _ e _ c.known.ensures.grid c.known.ensures.rank c.requires.may.number c.requires.may.hop c.loop-entry.invariant.going
          (read_next c.unread-entry-items.result.now c.loop-entry.entry-index c.args.link.now c.unread-entry-items.ensures c.loop-entry-test.true) (by_table _ _ _ e.tag c.passed_on-step.ensures c.neighbour-from.ensures.value)).1 _ c.index_mut.ensures.value,
    )

pub loop-entry-preserved : goal.loop-entry-preserved
loop-entry-preserved g c =
    let e : Entry = get_or c.unread-entry-items.result.now c.loop-entry.entry-index no_entry in
    record {
      going = step_more _ _ _ _ _ _ _ _ _ _ _ _ e _ c.known.ensures.grid c.known.ensures.rank c.requires.may.number c.requires.may.hop c.loop-entry.invariant.going
          (read_next c.unread-entry-items.result.now c.loop-entry.entry-index c.args.link.now c.unread-entry-items.ensures c.loop-entry-test.true) (by_table _ _ _ e.tag c.passed_on-step.ensures c.neighbour-from.ensures.value)
          c.index_mut.ensures.value (c.push.ensures.appended c.if-not-push.false) (c.push.ensures.room c.if-not-push.false) (read_more c.loop-entry.entry-index c.args.link.now);
      passing = passing_more _ _ _ _ _ _ _ _ _ _ e _ c.loop-entry.invariant.passing
          (read_next c.unread-entry-items.result.now c.loop-entry.entry-index c.args.link.now c.unread-entry-items.ensures c.loop-entry-test.true) (by_table _ _ _ e.tag c.passed_on-step.ensures c.neighbour-from.ensures.value)
          (step_within _ _ _ _ _ _ _ _ _ e _ c.known.ensures.grid c.known.ensures.rank c.requires.may.number c.requires.may.hop c.loop-entry.invariant.going
          (read_next c.unread-entry-items.result.now c.loop-entry.entry-index c.args.link.now c.unread-entry-items.ensures c.loop-entry-test.true) (by_table _ _ _ e.tag c.passed_on-step.ensures c.neighbour-from.ensures.value)).0
          c.index_mut.ensures.value (c.push.ensures.appended c.if-not-push.false) (c.push.ensures.room c.if-not-push.false);
      count = ap (λ n. n + 1) c.loop-entry.invariant.count;
    }

pub returns-then-not-push-clause-each : goal.returns-then-not-push-clause-each
returns-then-not-push-clause-each g c = subst (λ outs. EachAt (λ o out. IsOut c.args.routes.now.dims g.row.CAP (hop_to c.args.routes.now.dims o) out) outs) (sym (same_outs _ _ _ _ c.index_mut.ensures.value (c.push.ensures.unchanged c.if-not-push.true))) c.loop-entry.invariant.going.each

pub returns-then-not-push-clause-stopped : goal.returns-then-not-push-clause-stopped
returns-then-not-push-clause-stopped g c =
    let e : Entry = get_or c.unread-entry-items.result.now c.loop-entry.entry-index no_entry in
    let head = read_next c.unread-entry-items.result.now c.loop-entry.entry-index c.args.link.now c.unread-entry-items.ensures c.loop-entry-test.true in
    let step = by_table _ _ _ e.tag c.passed_on-step.ensures c.neighbour-from.ensures.value in
    subst (λ n. IsStopped c.args.routes.now.dims g.row.CAP (hop_to c.args.routes.now.dims c.args.i) (set c.loop-entry.outs.items c.passed_on-step.result.out c.push.new.self) (read_on n c.args.link.now)) (sym c.loop-entry.invariant.count)
    (subst (λ outs. IsStopped c.args.routes.now.dims g.row.CAP (hop_to c.args.routes.now.dims c.args.i) outs (read_on c.loop-entry.entry-index c.args.link.now)) (sym (same_outs _ _ _ _ c.index_mut.ensures.value (c.push.ensures.unchanged c.if-not-push.true)))
    (step_stopped _ _ _ _ _ (read_on c.loop-entry.entry-index c.args.link.now) _ e _ (step_within _ _ _ _ _ _ _ _ _ e _ c.known.ensures.grid c.known.ensures.rank c.requires.may.number c.requires.may.hop c.loop-entry.invariant.going head step).0 head step c.index_mut.ensures.value (c.push.ensures.full c.if-not-push.true)))

pub returns-then-not-push-clause-outs : goal.returns-then-not-push-clause-outs
returns-then-not-push-clause-outs g c =
    let e : Entry = get_or c.unread-entry-items.result.now c.loop-entry.entry-index no_entry in
    let head = read_next c.unread-entry-items.result.now c.loop-entry.entry-index c.args.link.now c.unread-entry-items.ensures c.loop-entry-test.true in
    let step = by_table _ _ _ e.tag c.passed_on-step.ensures c.neighbour-from.ensures.value in
    let within = (step_within _ _ _ _ _ _ _ _ _ e _ c.known.ensures.grid c.known.ensures.rank c.requires.may.number c.requires.may.hop c.loop-entry.invariant.going head step).0 in
    same_outs _ _ _ _ c.index_mut.ensures.value (c.push.ensures.unchanged c.if-not-push.true)
    ∙ (passing_full _ _ _ _ _ _ _ _ _ e _ c.loop-entry.invariant.passing head step within c.index_mut.ensures.value (c.push.ensures.full c.if-not-push.true)).outs_are

pub returns-then-not-push-clause-passes : goal.returns-then-not-push-clause-passes
returns-then-not-push-clause-passes g c =
    let e : Entry = get_or c.unread-entry-items.result.now c.loop-entry.entry-index no_entry in
    let head = read_next c.unread-entry-items.result.now c.loop-entry.entry-index c.args.link.now c.unread-entry-items.ensures c.loop-entry-test.true in
    let step = by_table _ _ _ e.tag c.passed_on-step.ensures c.neighbour-from.ensures.value in
    let within = (step_within _ _ _ _ _ _ _ _ _ e _ c.known.ensures.grid c.known.ensures.rank c.requires.may.number c.requires.may.hop c.loop-entry.invariant.going head step).0 in
    c.loop-entry.invariant.count
    ∙ (passing_full _ _ _ _ _ _ _ _ _ e _ c.loop-entry.invariant.passing head step within c.index_mut.ensures.value (c.push.ensures.full c.if-not-push.true)).passes_are

pub returns-clause-outs : goal.returns-clause-outs
returns-clause-outs g c =
    (passing_end _ _ _ _ _ _ _ _ c.loop-entry.invariant.passing (omega (arith, c.loop-entry-test.false, ap length c.unread-entry-items.ensures))).outs_are

pub returns-clause-passes : goal.returns-clause-passes
returns-clause-passes g c =
    c.loop-entry.invariant.count
    ∙ (passing_end _ _ _ _ _ _ _ _ c.loop-entry.invariant.passing (omega (arith, c.loop-entry-test.false, ap length c.unread-entry-items.ensures))).passes_are
