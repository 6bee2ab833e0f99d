use Rattle.std.proofs.Common.{◌≡◌, ◌++◌, [], ◌∷◌, rules, sym, ap, ◌∙◌}
use Rattle.mtx_text.proofs.Shuffles.{range_more}
use Rattle.bale_subjects.proofs.numberings.in_order.Goals as goal

pub loop-x-preserved : goal.loop-x-preserved
loop-x-preserved c =
    let e : c.push.new.self.items ≡ c.loop-x.numbers.items ++ c.loop-x.x ∷ [] = search (rules, c.in_ok-push.was, c.push.ensures.items) in
    record { items = e ∙ ap (λ ks. ks ++ c.loop-x.x ∷ []) c.loop-x.invariant.items ∙ sym (range_more c.loop-x.x) }
