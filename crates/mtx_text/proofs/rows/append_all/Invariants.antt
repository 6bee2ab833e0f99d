use Rattle.std.proofs.Common.{◌≡◌, ◌++◌, take, Bor, List}
use Rattle.std.specs.List.{flat_map}
use Rattle.bale_items.specs.declared.triple.Triple.{Triple}
use Rattle.mtx_text.proofs.rows.append_all.Given as goal

abbrev pub invariant-loop-list : goal.invariant-loop-list
invariant-loop-list l = l.all.items ≡ l.initial.all.items ++ flat_map (λ (list : Bor (List Triple)). list.now) (take l.list-index l.lists)
