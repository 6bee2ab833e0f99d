use Rattle.std.proofs.Common.{◌++◌, IsPermutation, List, Bor, sym, ap, subst, ◌∙◌}
use Rattle.std.specs.List.{flat_map}
use Rattle.bale_items.specs.declared.triple.Triple.{Triple}
use Rattle.mtx_text.proofs.rows.rows_together.Goals as goal

abbrev now : Bor (List Triple) → List Triple
now list = list.now

pub returns : goal.returns
returns c =
    let lists : List Triple = flat_map now c.args.lists.items in
    let new : List Triple = c.append_all.new.all.items in
    subst (IsPermutation lists) (sym (c.in_ok-append_all.ensures ∙ ap (λ l. c.take_in_turn.new.all.items ++ flat_map now l) c.deref-2.ensures.value))
    (subst (λ l. IsPermutation (l ++ lists) (c.take_in_turn.new.all.items ++ flat_map now c.take_in_turn.new.lists.items)) c.in_ok-all.ensures.items
    c.in_ok-take_in_turn.ensures)
