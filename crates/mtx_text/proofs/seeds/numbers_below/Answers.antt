use Rattle.std.proofs.Common.{◌≡◌, ◌++◌, [], ◌∷◌, rules, sym, ap, ◌∙◌}
use Rattle.mtx_text.proofs.Shuffles.{range_more}
use Rattle.mtx_text.proofs.seeds.numbers_below.Goals as goal

pub loop-k-preserved : goal.loop-k-preserved
loop-k-preserved c =
    let e : c.push.new.self.items ≡ c.loop-k.list.items ++ c.loop-k.k ∷ [] = search (rules, c.in_ok-push.was, c.push.ensures.items) in
    e ∙ ap (λ ks. ks ++ c.loop-k.k ∷ []) c.loop-k.invariant ∙ sym (range_more c.loop-k.k)
