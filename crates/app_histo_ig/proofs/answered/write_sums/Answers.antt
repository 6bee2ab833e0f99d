use Rattle.std.proofs.Common.{◌<◌, ◌≡◌, ◌+◌, ◌*◌, rules, List, Some, slice_get, w64, length, ap, subst, sym, ◌∙◌, arith}
use mir.Val.{SFits}
use Rattle.std.proofs.lemmas.Int.{to_z-of_z}
use Rattle.bale_items.specs.declared.triple.Triple.{Triple}
use Rattle.bale_types.proofs.Moves.{front_of_front, on_err_any}
use Rattle.list_laws.proofs.Lists.{find}
use Rattle.mtx_text.specs.declared.kind.Kind.TheVariants as kind
use Rattle.mtx_text.specs.Written.{entry_text}
use Rattle.app_histo_ig.specs.IgLines.{column_sum, ig_line}
use Rattle.app_histo_ig.proofs.Dealt.{turn_low}
use Rattle.app_histo_ig.proofs.IgText.{line_is, lines_more, front_at, field_at}
use Rattle.app_histo_ig.proofs.answered.write_sums.Given.{Over}
use Rattle.app_histo_ig.proofs.answered.write_sums.Goals.{After-set}
use Rattle.app_histo_ig.proofs.answered.write_sums.Goals as goal

-- the entry
entry : (g : Over) (c : After-set g) → (t : Triple) × (slice_get c.args.m.now.entries c.loop-e.e ≡ Some t)
entry g c = find c.args.m.now.entries c.loop-e.e (subst (λ xs. c.loop-e.e < length xs) c.entries-entries.ensures.entries c.loop-e-test.true)

-- its line
line : (g : Over) (c : After-set g)
    → c.set.new.self ≡ ig_line (entry g c).0.i (entry g c).0.j (column_sum (entry g c).0.j c.args.m.now.entries)
line g c =
    let ts : List Triple = c.args.m.now.entries in
    let t = entry g c in
    let fits : SFits w64 c.sum_at.result = record { sfits = c.sum_at.type_inv } in
    let at : slice_get ts (c.loop-e.at.turn * length c.args.p.now + c.loop-e.at.rank) ≡ Some t.0 = subst (λ k. slice_get ts k ≡ Some t.0) (sym c.loop-e.invariant.dealt) t.1 in
    c.set.ensures ∙ ap (entry_text kind.Integer) c.summed.ensures
    ∙ line_is ts t.0 _ _ _
    (field_at (λ (u : Triple). u.i) c.entries-entries.result.now ts c.loop-e.e t.0 _ c.entries-entries.ensures.entries t.1)
    (field_at (λ (u : Triple). u.j) c.entries-entries.result.now ts c.loop-e.e t.0 _ c.entries-entries.ensures.entries t.1)
    (to_z-of_z w64 c.sum_at.result fits ∙ c.sum_at.ensures t.0 at)

pub sum_at-requires-clause-entry : goal.sum_at-requires-clause-entry
sum_at-requires-clause-entry g c =
    subst (λ k. k < length c.args.m.now.entries) (sym c.loop-e.invariant.dealt) (subst (λ xs. c.loop-e.e < length xs) c.entries-entries.ensures.entries c.loop-e-test.true)

pub next-at-requires-clause-turn : goal.next-at-requires-clause-turn
next-at-requires-clause-turn g c =
    let low = turn_low (length c.args.p.now) c.loop-e.at.turn c.loop-e.at.rank c.loop-e.e c.loop-e.invariant.rank c.loop-e.invariant.dealt in
    omega (arith, low, c.loop-e-test.true, c.entries-entries.type_inv)

pub loop-e-preserved : goal.loop-e-preserved
loop-e-preserved g c =
    let ts : List Triple = c.args.m.now.entries in
    let x = (goal.at.loop-e-preserved g c).After-set in
    record {
      dealt = search (rules, c.next-at.ensures.next, c.loop-e.invariant.dealt, c.len-ranks.ensures);
      rank = search (rules, c.next-at.ensures.rank, c.len-ranks.ensures);
      so_far = lines_more (λ u. ig_line u.i u.j (column_sum u.j ts)) ts c.loop-e.e (entry g x).0 _ _ _ _ (entry g x).1 (line g x) c.in_ok-line.ensures.written.ok c.loop-e.invariant.so_far;
      faults = search rules;
      grows = front_of_front (g.K.Sink.taken c.args.out.now.sink.now) (g.K.Sink.taken c.loop-e.out.sink.now) (g.K.Sink.taken c.line.new.self.sink.now) c.loop-e.invariant.grows c.line.ensures.written.sink.grows;
      same_sink = search rules;
    }

pub returns-in_err-line : goal.returns-in_err-line
returns-in_err-line g c = record {
  ok = search rules;
  err = let ts : List Triple = c.args.m.now.entries in
      let x = (goal.at.returns-in_err-line g c).After-set in
      on_err_any c.from_residual.result
      (front_at (λ u. ig_line u.i u.j (column_sum u.j ts)) ts c.loop-e.e (entry g x).0 _ _ _ _ (entry g x).1 (line g x) c.in_err-line.ensures.written.err c.loop-e.invariant.so_far);
  sink = record { counts = search rules; grows = front_of_front (g.K.Sink.taken c.args.out.now.sink.now) (g.K.Sink.taken c.loop-e.out.sink.now) (g.K.Sink.taken c.line.new.self.sink.now) c.loop-e.invariant.grows c.line.ensures.written.sink.grows; same_sink = search rules };
}
