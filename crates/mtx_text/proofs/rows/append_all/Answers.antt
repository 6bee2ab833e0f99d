use Rattle.std.proofs.Common.{◌++◌, List, Bor, sym, ap, ◌∙◌}
use Rattle.std.specs.List.{flat_map}
use Rattle.std.proofs.lemmas.List.{append-nil, take_all}
use Rattle.bale_items.specs.declared.triple.Triple.{Triple}
use Rattle.mtx_text.proofs.FrontMoved.{list_appended}
use Rattle.mtx_text.proofs.rows.append_all.Goals as goal

abbrev now : Bor (List Triple) → List Triple
now list = list.now

pub loop-list-init : goal.loop-list-init
loop-list-init c = sym (append-nil c.args.all.now.items)

pub loop-list-preserved : goal.loop-list-preserved
loop-list-preserved c =
    list_appended now c.args.lists.now c.loop-list.list-index _ c.args.all.now.items c.loop-list.all.items c.extend_from_slice.new.self.items c.loop-list-test.true
    c.in_ok-extend_from_slice.ensures.items c.loop-list.invariant

pub returns : goal.returns
returns c =
    c.loop-list.invariant
    ∙ ap (λ l. c.args.all.now.items ++ flat_map now l) (take_all c.loop-list.list-index c.args.lists.now c.loop-list-test.false)
