use Rattle.std.proofs.Common.{◌<◌, length, refl, ap, ◌∙◌, arith}
use Rattle.std.proofs.lemmas.List.{length-map}
use Rattle.std.proofs.lemmas.Option.{slice_get_read}
use Rattle.list_laws.proofs.Lists.{map_unchanged, within, all_from_gets}
use Rattle.rank_crews.specs.Children.{first_of, HasEnded, IsSwept}
use Rattle.rank_crews.proofs.Joining.{holds_further, changed_none, changed_more, changed_all}
use Rattle.rank_crews.proofs.caller.sweep_children.Goals as goal

pub loop-i-init : goal.loop-i-init
loop-i-init g c = record {
  same = refl;
  swept = changed_none (IsSwept g.A.Seated.over g.A.Seated.turns) c.args.children.now.items;
  ended = λ over k x low at. absurd (omega (arith, low));
}

pub loop-i-preserved : goal.loop-i-preserved
loop-i-preserved g c =
    let cs = c.loop-i.children.items in
    let was = c.args.children.now.items in
    let same = c.loop-i.invariant.same in
    let size = ap length same in
    let below = c.loop-i-test.true in
    let low : c.loop-i.i < length cs = omega (arith, below, c.len-i-end.ensures, size, length-map cs first_of, length-map was first_of) in
    let at = slice_get_read cs (length cs) c.loop-i.i c.index_mut.result.now refl low c.index_mut.ensures.value in
    record {
      same = map_unchanged first_of cs c.loop-i.i c.index_mut.result.now c.sweep_child.new.child at c.sweep_child.ensures.same ∙ same;
      swept = changed_more (IsSwept g.A.Seated.over g.A.Seated.turns) c.loop-i.i was cs c.index_mut.result.now c.sweep_child.new.child c.loop-i.invariant.swept at c.sweep_child.ensures.swept;
      ended = λ over.
          let b = c.both-progress.ensures.over.0 over in
          holds_further (HasEnded g.A.Seated.over) cs c.loop-i.i c.sweep_child.new.child low (c.loop-i.invariant.ended b.0) (c.sweep_child.ensures.ended b.1);
    }

pub returns-clause-swept : goal.returns-clause-swept
returns-clause-swept g c = changed_all (IsSwept g.A.Seated.over g.A.Seated.turns) c.loop-i.i c.args.children.now.items c.loop-i.children.items (omega (arith, c.loop-i-test.false, c.len-i-end.ensures)) c.loop-i.invariant.swept

pub returns-clause-ended : goal.returns-clause-ended
returns-clause-ended g c = λ over.
    let cs = c.loop-i.children.items in
    let was = c.args.children.now.items in
    let size = ap length c.loop-i.invariant.same in
    let end = c.loop-i-test.false in
    all_from_gets (HasEnded g.A.Seated.over) cs (λ k x at. c.loop-i.invariant.ended over k x (omega (arith, end, within cs k x at, c.len-i-end.ensures, size, length-map cs first_of, length-map was first_of)) at)
