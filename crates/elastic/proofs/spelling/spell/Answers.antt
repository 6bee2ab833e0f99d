use Rattle.std.proofs.Common.{[], ◌∷◌, ◌++◌, arith, ap, ◌∙◌}
use Rattle.elastic.proofs.Steps.{spell_more}
use Rattle.elastic.proofs.spelling.spell.Goals as goal

pub loop-rest-preserved : goal.loop-rest-preserved
loop-rest-preserved c =
    spell_more _ c.loop-rest.outgoing.items c.push-in-loop-rest.new.self.items _ c.loop-rest.rest.now c.behind-rest-in-loop-rest.result.now (grind arith)
    (c.in_ok-push-2.ensures.items ∙ ap (λ x. c.loop-rest.outgoing.items ++ (c.args.to, x) ∷ []) c.next_item.ensures)
    c.behind-rest-in-loop-rest.ensures c.loop-rest.invariant
