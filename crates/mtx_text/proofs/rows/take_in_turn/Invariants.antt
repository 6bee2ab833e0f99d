use Rattle.std.proofs.Common.{◌<◌, ◌++◌, IsPermutation, length, Bor, List}
use Rattle.std.specs.List.{flat_map}
use Rattle.bale_items.specs.declared.triple.Triple.{Triple}
use Rattle.mtx_text.proofs.rows.take_in_turn.Given as goal

abbrev pub invariant-loop-row : goal.invariant-loop-row
invariant-loop-row l = record {
  moved : IsPermutation (l.initial.all.items ++ flat_map (λ (list : Bor (List Triple)). list.now) l.initial.lists.items)
      (l.all.items ++ flat_map (λ (list : Bor (List Triple)). list.now) l.lists.items);
  turn : l.turn < length l.lists.items;
}
