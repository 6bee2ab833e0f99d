use Rattle.std.proofs.Common.{◌≡◌, ◌≢◌, ◌<◌, ◌+◌, ℕ, length, get_or, sym, ◌∙◌, rules, arith, subst, pos}
use Rattle.std.proofs.lemmas.List.{get_or_read_under}
use Rattle.bale_items.specs.declared.triple.Triple.{Triple}
use Rattle.mtx_text.specs.code.Chains.{LeadsTo}
use Rattle.mtx_text.proofs.Chains.{step}
use Rattle.mtx_text.proofs.apart.is_row_apart.Goals as goal

pub loop-at-smaller : goal.loop-at-smaller
loop-at-smaller c =
    let entries = c.args.entries.now in
    let k = c.loop-at.at in
    let e : Triple = record { i = 0; j = 0; v = pos 0 } in
    let here : k < length entries = c.loop-at-test.true in
    let room : k < length c.args.nexts.now.items = omega (arith, here, c.requires.linked.size) in
    let next : c.index-in-loop-at-2.result.now ≡ get_or c.args.nexts.now.items k 0 =
    get_or_read_under c.args.nexts.now.items k (length c.args.nexts.now.items) c.index-in-loop-at-2.result.now 0 c.index-in-loop-at-2.ensures room (search rules) in
    let leads = c.requires.linked.nexts_lead k e (omega arith) here in
    omega (arith, leads.low, next, here)

pub loop-at-preserved : goal.loop-at-preserved
loop-at-preserved c =
    let entries = c.args.entries.now in
    let stamps = c.loop-at.stamps.items in
    let k = c.loop-at.at in
    let e : Triple = record { i = 0; j = 0; v = pos 0 } in
    let here : k < length entries = c.loop-at-test.true in
    let within = c.requires.linked.indexed.within k e here in
    let column : (get_or entries k e).j < length stamps = omega (arith, within.col, c.loop-at.invariant.1, c.loop-at.stamps.ok) in
    let read : c.index-in-loop-at.result.now ≡ get_or stamps (get_or entries k e).j 0 =
    get_or_read_under stamps (get_or entries k e).j (length stamps) c.index-in-loop-at.result.now 0 c.index-in-loop-at.ensures column (search rules) in
    let fresh : get_or stamps (get_or entries k e).j 0 ≢ c.args.row + 1 = λ h. c.if-index-stamp.false (read ∙ h) in
    let room : k < length c.args.nexts.now.items = omega (arith, here, c.requires.linked.size) in
    let next : c.index-in-loop-at-2.result.now ≡ get_or c.args.nexts.now.items k 0 =
    get_or_read_under c.args.nexts.now.items k (length c.args.nexts.now.items) c.index-in-loop-at-2.result.now 0 c.index-in-loop-at-2.ensures room (search rules) in
    let leads = subst (λ (w : ℕ). LeadsTo entries (get_or entries k e).i (k + 1) w) (sym next) (c.requires.linked.nexts_lead k e (omega arith) here) in
    (step entries stamps c.args.row (c.args.row + 1) k c.index-in-loop-at-2.result.now e here column fresh leads c.loop-at.invariant.0, c.loop-at.invariant.1)
