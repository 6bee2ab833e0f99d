use Rattle.std.proofs.Common.{true, ◌≡◌, ◌<◌, ◌%◌, ◌+◌, ◌∷◌, [], slice_index_or, slice_set, length, length-append, refl, sym, ap, subst, ◌∙◌, arith}
use Rattle.std.proofs.lemmas.Nat.{mod_below}
use Rattle.std.specs.List.{All}
use Rattle.std.proofs.lemmas.List.{length-set}
use Rattle.std.proofs.lemmas.List.Elements.{All-push}
use Rattle.std.proofs.lemmas.Option.{slice_get_read}
use Rattle.rank_crews.proofs.Crewed.{Gathered, still_some, came_over, gathered_more}
use Rattle.rank_crews.proofs.dealing.gather.Goals as goal

pub loop-number-preserved : goal.loop-number-preserved
loop-number-preserved g c =
    let A = g.A.Seated in
    let v = c.loop-number.invariant in
    let crews = c.loop-number.crews.items in
    let n = length c.args.crews.items in
    let r = c.loop-number.number in
    let q = c.requires.run in
    let some = c.requires.some in
    let y = c.in-Some.at in
    let rest = c.leave.new.self in
    let old = c.index_mut.result.now in
    let is = c.in-Some.ensures.left in
    let push = c.push_reserved.ensures in
    let len : c.len.result ≡ n = omega (arith, c.len.ensures, v.size) in
    let low : r % n < length crews = omega (arith, mod_below r n some, v.size) in
    let at = slice_get_read crews (length crews) (r % n) old refl low (c.index_mut.ensures.value ∙ ap (λ k. slice_index_or crews (r % k) old) len) in
    let below = c.loop-number-test.true in
    record {
      so_far = λ all size run.
          subst (λ k. Gathered (A.ran g.J.GateLog.notified) A.over n (r + 1) all (slice_set crews (r % k) rest) c.push_reserved.new.self.items) (sym len)
          (subst (λ z. Gathered (A.ran g.J.GateLog.notified) A.over n (r + 1) all (slice_set crews (r % n) rest) z) (sym push.items)
          (gathered_more (A.ran g.J.GateLog.notified) A.over n r all crews c.loop-number.ended.items (v.so_far all size run) (omega (arith, below, size)) old at rest y is));
      over = subst (λ z. All (λ k. A.over k ≡ true) z) (sym push.items)
          (All-push (λ k. A.over k ≡ true) c.loop-number.ended.items y v.over
          (came_over (A.ran g.J.GateLog.notified) A.over n r q.0 crews c.loop-number.ended.items (v.so_far q.0 q.1 q.2) (omega (arith, below, q.1)) old at rest y is));
      size = length-set crews (r % c.len.result) rest ∙ v.size;
      back = omega (arith, ap length push.items, length-append c.loop-number.ended.items (y ∷ []), v.back);
      room = omega (arith, v.room, push.capacity);
    }

pub index_mut-requires : goal.index_mut-requires
index_mut-requires g c = omega (arith, c.len.ensures, c.loop-number.invariant.size, c.requires.some, mod_below c.loop-number.number c.len.result (let some = c.requires.some in let size = c.loop-number.invariant.size in let len = c.len.ensures in omega arith))

pub unreachable-requires : goal.unreachable-requires
unreachable-requires g c =
    let v = c.loop-number.invariant in
    let crews = c.loop-number.crews.items in
    let n = length c.args.crews.items in
    let r = c.loop-number.number in
    let q = c.requires.run in
    let some = c.requires.some in
    let so_far = v.so_far q.0 q.1 q.2 in
    let len : c.len.result ≡ n = omega (arith, c.len.ensures, v.size) in
    let low : r % n < length crews = omega (arith, mod_below r n some, v.size) in
    let at = slice_get_read crews (length crews) (r % n) c.index_mut.result.now refl low (c.index_mut.ensures.value ∙ ap (λ k. slice_index_or crews (r % k) c.index_mut.result.now) len) in
    still_some (g.A.Seated.ran g.J.GateLog.notified) g.A.Seated.over n r q.0 crews c.loop-number.ended.items so_far (omega (arith, c.loop-number-test.true, q.1)) c.index_mut.result.now at c.in_default.ensures.none
