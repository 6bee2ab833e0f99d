use Rattle.std.proofs.Common.{suc, ◌≡◌, ◌+◌, ◌-◌, ◌%◌, ◌<◌, ◌++◌, [], ◌∷◌, pos, slice_index, length, take, arith, rules, sym, ap, ap₂, ◌∙◌, subst}
use Rattle.std.specs.List.{All}
use Rattle.std.proofs.lemmas.List.{length_push}
use Rattle.std.proofs.lemmas.List.Elements.{All-nil, All-push}
use Rattle.bale_items.specs.declared.triple.Triple.{Triple}
use Rattle.mtx_text.specs.declared.kind.Kind.TheVariants.{Integer}
use Rattle.mtx_text.specs.Sparse.{IsEntry}
use Rattle.mtx_text.specs.Cells.{sparse}
use Rattle.mtx_text.specs.Seeds.{word, step}
use Rattle.mtx_text.specs.Generated.{hidden_triangle}
use Rattle.mtx_text.proofs.Bands.{rest_from, rest_start, rest_step, rest_turn, room_start, on_band, hidden_more, entry_inside, as_many}
use Rattle.mtx_text.proofs.generate.hide.Goals as goal

pub loop-left-init : goal.loop-left-init
loop-left-init c =
    let n = c.args.n in
    let none : c.in_ok-entries.entries.items ≡ [] = c.in_ok-entries.ensures.items in
    record {
      told = ap (λ done. done ++ hidden_triangle c.args.rows.now.items c.args.cols.now.items c.args.words (take c.args.m (rest_from n 0 0))) none
          ∙ ap (λ xs. hidden_triangle c.args.rows.now.items c.args.cols.now.items c.args.words (take c.args.m xs)) (rest_start n);
      room = room_start n c.args.m c.requires.hidden.room;
      place = λ l. l;
      inside = subst (All (λ t. IsEntry (sparse n n Integer []) t)) (sym none) (All-nil (λ t. IsEntry (sparse n n Integer []) t));
      count = ap (λ es. length es + c.args.m) none ∙ omega arith;
    }

pub overflow_add-row : goal.overflow_add-row
overflow_add-row c =
    let l = c.loop-left in
    let low : l.row + l.distance < c.args.n = on_band c.args.n l.distance l.row l.left c.loop-left-test.true l.invariant.room l.invariant.place in
    omega (arith, c.requires.hidden.tall)

pub entry_at-requires-clause-row : goal.entry_at-requires-clause-row
entry_at-requires-clause-row c =
    let l = c.loop-left in
    let low : l.row + l.distance < c.args.n = on_band c.args.n l.distance l.row l.left c.loop-left-test.true l.invariant.room l.invariant.place in
    omega (arith, as_many c.args.n c.args.rows.now.items c.requires.rows, c.args.rows.now.ok.0)

pub entry_at-requires-clause-col : goal.entry_at-requires-clause-col
entry_at-requires-clause-col c =
    let l = c.loop-left in
    let low : l.row + l.distance < c.args.n = on_band c.args.n l.distance l.row l.left c.loop-left-test.true l.invariant.room l.invariant.place in
    omega (arith, as_many c.args.n c.args.cols.now.items c.requires.cols, c.args.cols.now.ok.0)

pub overflow_add-row-in-loop-left : goal.overflow_add-row-in-loop-left
overflow_add-row-in-loop-left c =
    let l = c.loop-left in
    let low : l.row + l.distance < c.args.n = on_band c.args.n l.distance l.row l.left c.loop-left-test.true l.invariant.room l.invariant.place in
    omega (arith, c.requires.hidden.tall)

pub overflow_add-row-in-loop-left-2 : goal.overflow_add-row-in-loop-left-2
overflow_add-row-in-loop-left-2 c =
    let l = c.loop-left in
    let low : l.row + l.distance < c.args.n = on_band c.args.n l.distance l.row l.left c.loop-left-test.true l.invariant.room l.invariant.place in
    omega (arith, c.requires.hidden.tall)

pub loop-left-preserved-then-row-distance : goal.loop-left-preserved-then-row-distance
loop-left-preserved-then-row-distance c =
    let l = c.loop-left in
    let n = c.args.n in
    let p = c.args.rows.now.items in
    let q = c.args.cols.now.items in
    let low : l.row + l.distance < n = on_band n l.distance l.row l.left c.loop-left-test.true l.invariant.room l.invariant.place in
    let rest : rest_from n l.distance l.row ≡ (l.row, l.row + l.distance) ∷ rest_from n l.distance (l.row + 1) = rest_step n l.distance l.row low in
    let turn : rest_from n l.distance (l.row + 1) ≡ rest_from n (l.distance + 1) 0 = rest_turn n l.distance (l.row + 1) c.if-row-distance.true in
    let x : Triple = record { i = slice_index p l.row; j = slice_index q (l.row + l.distance); v = pos (1 + word l.words % 1000) } in
    let t : c.entry_at.result ≡ x = c.entry_at.ensures ∙ ap (λ w. record { i = slice_index p l.row; j = slice_index q (l.row + l.distance); v = pos (1 + w % 1000) }) c.draw-word.ensures.word in
    let pushed : c.push.new.self.items ≡ l.entries.items ++ c.entry_at.result ∷ [] = search (rules, c.in_ok-push.was, c.push.ensures.items) in
    let new : c.push.new.self.items ≡ l.entries.items ++ x ∷ [] = pushed ∙ ap (λ t. l.entries.items ++ t ∷ []) t in
    let size : length (rest_from n l.distance l.row) ≡ suc (length (rest_from n (l.distance + 1) 0)) = ap length rest ∙ ap (λ xs. suc (length xs)) turn in
    let grown : length (l.entries.items ++ x ∷ []) ≡ length l.entries.items + 1 = length_push l.entries.items x in
    record {
      told = ap₂ (λ es s. es ++ hidden_triangle p q s (take (l.left - 1) (rest_from n (l.distance + 1) 0))) new c.draw-word.ensures.state
          ∙ ap (λ xs. l.entries.items ++ x ∷ [] ++ hidden_triangle p q (step l.words) (take (l.left - 1) xs)) (sym turn)
          ∙ hidden_more p q l.words l.left l.row (l.row + l.distance) l.entries.items (rest_from n l.distance l.row) (rest_from n l.distance (l.row + 1)) _ c.loop-left-test.true rest l.invariant.told;
      room = omega (arith, l.invariant.room);
      place = λ h. omega arith;
      inside = subst (All (λ t. IsEntry (sparse n n Integer []) t)) (sym new)
          (All-push (λ t. IsEntry (sparse n n Integer []) t) l.entries.items x l.invariant.inside (entry_inside n p q l.row (l.row + l.distance) (word l.words) c.requires.rows c.requires.cols (omega arith) low));
      count = ap (λ es. length es + (l.left - 1)) new ∙ omega (arith, l.invariant.count);
    }

pub loop-left-preserved : goal.loop-left-preserved
loop-left-preserved c =
    let l = c.loop-left in
    let n = c.args.n in
    let p = c.args.rows.now.items in
    let q = c.args.cols.now.items in
    let low : l.row + l.distance < n = on_band n l.distance l.row l.left c.loop-left-test.true l.invariant.room l.invariant.place in
    let rest : rest_from n l.distance l.row ≡ (l.row, l.row + l.distance) ∷ rest_from n l.distance (l.row + 1) = rest_step n l.distance l.row low in
    let x : Triple = record { i = slice_index p l.row; j = slice_index q (l.row + l.distance); v = pos (1 + word l.words % 1000) } in
    let t : c.entry_at.result ≡ x = c.entry_at.ensures ∙ ap (λ w. record { i = slice_index p l.row; j = slice_index q (l.row + l.distance); v = pos (1 + w % 1000) }) c.draw-word.ensures.word in
    let pushed : c.push.new.self.items ≡ l.entries.items ++ c.entry_at.result ∷ [] = search (rules, c.in_ok-push.was, c.push.ensures.items) in
    let new : c.push.new.self.items ≡ l.entries.items ++ x ∷ [] = pushed ∙ ap (λ t. l.entries.items ++ t ∷ []) t in
    let size : length (rest_from n l.distance l.row) ≡ suc (length (rest_from n l.distance (l.row + 1))) = ap length rest in
    let grown : length (l.entries.items ++ x ∷ []) ≡ length l.entries.items + 1 = length_push l.entries.items x in
    record {
      told = ap₂ (λ es s. es ++ hidden_triangle p q s (take (l.left - 1) (rest_from n l.distance (l.row + 1)))) new c.draw-word.ensures.state
          ∙ hidden_more p q l.words l.left l.row (l.row + l.distance) l.entries.items (rest_from n l.distance l.row) (rest_from n l.distance (l.row + 1)) _ c.loop-left-test.true rest l.invariant.told;
      room = omega (arith, l.invariant.room);
      place = λ h. omega (arith, c.if-row-distance.false);
      inside = subst (All (λ t. IsEntry (sparse n n Integer []) t)) (sym new)
          (All-push (λ t. IsEntry (sparse n n Integer []) t) l.entries.items x l.invariant.inside (entry_inside n p q l.row (l.row + l.distance) (word l.words) c.requires.rows c.requires.cols (omega arith) low));
      count = ap (λ es. length es + (l.left - 1)) new ∙ omega (arith, l.invariant.count);
    }
