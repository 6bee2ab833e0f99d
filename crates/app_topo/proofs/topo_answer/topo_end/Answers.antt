use Rattle.std.proofs.Common.{◌≡◌, length, map, reverse, arith, sym, ap, ◌∙◌}
use Rattle.std.specs.Prelude.{vec_len}
use Rattle.app_topo.specs.TopoEnds.{cell_place}
use Rattle.app_topo.proofs.TopoEnding.{too_few, not_once, complete_then, order_none, none_valid, order_some, order_valid}
use Rattle.app_topo.proofs.topo_answer.topo_end.Goals as goal

pub returns-then-len-rows-clause-order : goal.returns-then-len-rows-clause-order
returns-then-len-rows-clause-order c =
    let size : vec_len c.in_ok-placed.placed ≡ length c.in_ok-placed.placed.items = omega (arith, c.in_ok-placed.placed.ok.0) in
    order_none c.args.m.now (too_few c.args.m.now c.in_ok-placed.placed.items c.in_ok-placed.ensures.claims (λ e. c.if-len-rows.true (c.len.ensures ∙ size ∙ e ∙ sym c.rows.ensures)))

pub returns-then-len-rows-clause-none : goal.returns-then-len-rows-clause-none
returns-then-len-rows-clause-none c = λ e p q v.
    let size : vec_len c.in_ok-placed.placed ≡ length c.in_ok-placed.placed.items = omega (arith, c.in_ok-placed.placed.ok.0) in
    none_valid c.args.m.now p q c.requires.ended.square c.requires.ended.matrix (too_few c.args.m.now c.in_ok-placed.placed.items c.in_ok-placed.ensures.claims (λ e. c.if-len-rows.true (c.len.ensures ∙ size ∙ e ∙ sym c.rows.ensures))) v

pub returns-then-not-columns_once-clause-order : goal.returns-then-not-columns_once-clause-order
returns-then-not-columns_once-clause-order c = order_none c.args.m.now (not_once c.args.m.now (sym c.columns_once.ensures ∙ c.if-not-columns_once.true))

pub returns-then-not-columns_once-clause-none : goal.returns-then-not-columns_once-clause-none
returns-then-not-columns_once-clause-none c = λ e p q v.
    none_valid c.args.m.now p q c.requires.ended.square c.requires.ended.matrix (not_once c.args.m.now (sym c.columns_once.ensures ∙ c.if-not-columns_once.true)) v

pub returns-clause-order : goal.returns-clause-order
returns-clause-order c =
    let size : vec_len c.in_ok-placed.placed ≡ length c.in_ok-placed.placed.items = omega (arith, c.in_ok-placed.placed.ok.0) in
    order_some c.args.m.now c.in_ok-placed.placed.items c.of_places.result c.in_ok-placed.ensures.claims (c.of_places.ensures ∙ c.in_ok-last_first.ensures ∙ ap (λ w. reverse (map cell_place w)) c.deref.ensures.value)
    (complete_then c.args.m.now c.in_ok-placed.placed.items c.in_ok-placed.ensures.claims (sym size ∙ sym c.len.ensures ∙ c.if-len-rows.false ∙ c.rows.ensures) (sym c.columns_once.ensures ∙ c.if-not-columns_once.false))

pub returns-clause-valid : goal.returns-clause-valid
returns-clause-valid c =
    let size : vec_len c.in_ok-placed.placed ≡ length c.in_ok-placed.placed.items = omega (arith, c.in_ok-placed.placed.ok.0) in
    order_valid c.args.m.now c.in_ok-placed.placed.items c.of_places.result c.requires.ended.square c.requires.ended.matrix c.in_ok-placed.ensures.claims (c.of_places.ensures ∙ c.in_ok-last_first.ensures ∙ ap (λ w. reverse (map cell_place w)) c.deref.ensures.value)
    (complete_then c.args.m.now c.in_ok-placed.placed.items c.in_ok-placed.ensures.claims (sym size ∙ sym c.len.ensures ∙ c.if-len-rows.false ∙ c.rows.ensures) (sym c.columns_once.ensures ∙ c.if-not-columns_once.false))
