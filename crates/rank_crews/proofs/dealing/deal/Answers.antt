use Rattle.std.proofs.Common.{◌≡◌, ◌<◌, ◌%◌, suc, ◌∷◌, [], length, length-append, refl, sym, ap, subst, ◌∙◌, slice_index_or, slice_set, arith}
use Rattle.std.proofs.lemmas.Nat.{mod_below}
use Rattle.std.proofs.lemmas.Option.{slice_get_read}
use Rattle.rank_crews.specs.Crews.{AreDealt}
use Rattle.rank_crews.proofs.Crewed.{one_before, dealt_more}
use Rattle.rank_crews.proofs.dealing.deal.Goals as goal

pub loop-at-preserved : goal.loop-at-preserved
loop-at-preserved g c =
    let v = c.loop-at.invariant in
    let count = c.args.count in
    let left = c.pop.new.self.items in
    let x = c.in-Some.at in
    let crews = c.loop-at.crews.items in
    let number : c.len-in-Some.result ≡ length left = omega (arith, c.len-in-Some.ensures) in
    let size : length c.loop-at.all.items ≡ suc (length left) = omega (arith, ap length c.in-Some.ensures.items, length-append left (x ∷ [])) in
    let are : AreDealt count (suc (length left)) v.dealt crews = subst (λ n. AreDealt count n v.dealt crews) size v.are in
    let low : length left % count < length crews = omega (arith, mod_below (length left) count c.requires.some, v.are.all) in
    let here = ap (λ n. n % count) number in
    let at = slice_get_read crews (length crews) (length left % count) c.index_mut.result.now refl low (c.index_mut.ensures.value ∙ ap (λ n. slice_index_or crews n c.index_mut.result.now) here) in
    record {
      dealt = x ∷ v.dealt;
      whole = one_before left v.dealt c.args.all.items c.loop-at.all.items x v.whole c.in-Some.ensures.items;
      are = subst (λ k. AreDealt count (length left) (x ∷ v.dealt) (slice_set crews k c.join.new.self)) (sym here)
          (subst (λ z. AreDealt count (length left) (x ∷ v.dealt) (slice_set crews (length left % count) z)) (sym c.in_ok-join.ensures)
          (dealt_more count (length left) x v.dealt crews c.index_mut.result.now are at));
    }
