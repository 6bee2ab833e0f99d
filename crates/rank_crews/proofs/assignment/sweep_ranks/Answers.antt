use Rattle.std.proofs.Common.{◌≡◌, ◌+◌, ◌<◌, ◌-◌, length, slice_get, slice_set, Some, refl, subst, sym, arith}
use Rattle.std.proofs.lemmas.Option.{slice_get_read}
use Rattle.rank_crews.specs.laws.RunLaws.{all_ran_laws}
use Rattle.rank_crews.proofs.Crewed.{neither, ran_on, sum_set}
use Rattle.rank_crews.proofs.Sweeps.{SweptSoFar, swept_none, swept_more, swept_all}
use Rattle.rank_crews.proofs.assignment.sweep_ranks.Goals as goal

pub loop-i-preserved : goal.loop-i-preserved
loop-i-preserved g c =
    let notified = g.J.GateLog.notified in
    let ys = c.loop-i.ranks.items in
    let was = c.args.ranks.now.items in
    let i = c.len-count.result - 1 - c.loop-i.i in
    let size = c.loop-i.invariant.ran.all in
    let low : i < length ys = omega (arith, c.loop-i-test.true, c.len-count.ensures, size) in
    let at = slice_get_read ys (length ys) i c.index_mut.result.now refl low c.index_mut.ensures.value in
    let one = c.turn_one-moved.ensures in
    let more = sum_set g.A.Seated.turns ys i c.index_mut.result.now c.turn_one-moved.new.at at in
    let before = c.loop-i.invariant.counted in
    let now = one.counted in
    let count : c.len-count.result ≡ length was = omega (arith, c.len-count.ensures) in
    record {
      counted = omega (arith, more, before, now);
      ran = ran_on (g.A.Seated.ran notified) (g.met.A.Seated.laws notified) was ys i c.index_mut.result.now c.turn_one-moved.new.at c.loop-i.invariant.ran at one.ran;
      each = subst (λ n. SweptSoFar g.A.Seated.over g.A.Seated.turns (c.loop-i.i + 1) was (slice_set ys (n - 1 - c.loop-i.i) c.turn_one-moved.new.at)) (sym count)
          (swept_more g.A.Seated.over g.A.Seated.turns c.loop-i.i was ys c.index_mut.result.now c.turn_one-moved.new.at c.loop-i.invariant.each (omega (arith, c.loop-i-test.true, count))
          (subst (λ n. slice_get ys (n - 1 - c.loop-i.i) ≡ Some c.index_mut.result.now) count at) one.one);
      still = λ none.
          let n = neither c.loop-i.moved c.turn_one-moved.result none in
          ran_on g.A.Seated.still g.met.A.Seated.still_laws was ys i c.index_mut.result.now c.turn_one-moved.new.at (c.loop-i.invariant.still n.0) at (one.still n.1);
    }

pub loop-i-init : goal.loop-i-init
loop-i-init g c = record {
  counted = refl;
  ran = (all_ran_laws (g.A.Seated.ran g.J.GateLog.notified) (g.met.A.Seated.laws g.J.GateLog.notified)).none c.args.ranks.now.items;
  each = swept_none g.A.Seated.over g.A.Seated.turns c.args.ranks.now.items;
  still = λ none. (all_ran_laws g.A.Seated.still g.met.A.Seated.still_laws).none c.args.ranks.now.items;
}

pub returns-clause-each : goal.returns-clause-each
returns-clause-each g c = swept_all g.A.Seated.over g.A.Seated.turns c.loop-i.i c.args.ranks.now.items c.loop-i.ranks.items (omega (arith, c.loop-i-test.false, c.len-count.ensures)) c.loop-i.invariant.each
