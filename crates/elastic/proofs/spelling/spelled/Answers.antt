use Rattle.std.proofs.Common.{◌<◌, subst}
use Rattle.elastic.proofs.Steps.{spelled_more}
use Rattle.elastic.proofs.spelling.spelled.Goals as goal

pub loop-i-preserved : goal.loop-i-preserved
loop-i-preserved g c =
    spelled_more (g.Q.LetterProgram.rules.letters c.args.q.now) c.loop-i.i c.to.result c.letter.result.now c.loop-i.outgoing.items c.spell.new.outgoing.items
    (subst (λ n. c.loop-i.i < n) c.count-count.ensures c.loop-i-test.true) c.to.ensures c.letter.ensures c.loop-i.invariant c.in_ok-spell.ensures
