use Rattle.std.proofs.Common.{◌++◌, length, List, Bor, arith, inl, inr, sym, ◌∙◌}
use Rattle.std.specs.List.{flat_map}
use Rattle.std.proofs.lemmas.Bool.{cases_lt, eq-eqb, false≢true}
use Rattle.std.proofs.lemmas.List.{length-set}
use Rattle.std.proofs.lemmas.List.Sorted.{IsPermutation-refl, IsPermutation-trans}
use Rattle.bale_items.specs.declared.triple.Triple.{Triple}
use Rattle.mtx_text.proofs.FrontMoved.{front_moved}
use Rattle.mtx_text.proofs.rows.take_in_turn.Goals as goal

abbrev now : Bor (List Triple) → List Triple
now list = list.now

pub loop-row-init : goal.loop-row-init
loop-row-init c = record {
  moved = IsPermutation-refl (c.args.all.now.items ++ flat_map now c.args.lists.now.items);
  turn = elim (cases_lt 0 (length c.args.lists.now.items)) [
    | inl l ↦ l
    | inr l ↦ absurd (false≢true (sym c.if-is_empty.false ∙ c.is_empty.ensures ∙ eq-eqb _ 0 (omega (arith, c.args.lists.now.ok.0, l))))
  ];
}

pub loop-row-preserved : goal.loop-row-preserved
loop-row-preserved c =
    let lists = c.loop-row.lists.items in
    let turn = c.loop-row.turn in
    record {
      moved = IsPermutation-trans _ _ _ c.loop-row.invariant.moved
          (front_moved now lists turn c.index.result.now c.in_ok-lists.field-0 c.loop-row.all.items c.after_row.new.all.items c.loop-row.invariant.turn c.index.ensures
          c.in_ok-lists.ensures);
      turn = omega (arith, length-set lists turn c.in_ok-lists.field-0, c.next_turn-turn.ensures, c.len.ensures, c.loop-row.lists.ok.0);
    }

pub returns : goal.returns
returns c = c.loop-row.invariant.moved
