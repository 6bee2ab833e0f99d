use Rattle.std.proofs.Common.{◌<◌, length, map, sym, subst, rules}
use Rattle.std.proofs.lemmas.List.{length-map}
use Rattle.elastic.proofs.Steps.{cleared_more}
use Rattle.elastic.proofs.reading.forget_all.Goals as goal

pub loop-sender-preserved : goal.loop-sender-preserved
loop-sender-preserved c =
    cleared_more (map (λ q. q.items) c.args.begun.now.items) _ _ c.loop-sender.sender c.loop-sender.invariant
    (subst (λ n. c.loop-sender.sender < n) (sym (length-map c.args.begun.now.items (λ q. q.items))) (let low : c.loop-sender.sender < length c.args.begun.now.items = search rules in low))
    c.forget.ensures
