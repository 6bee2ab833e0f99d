use Rattle.std.proofs.Common.{[], replicate, ap, ◌∙◌}
use Rattle.elastic.proofs.Steps.{made_valid}
use Rattle.elastic.proofs.mailer.Mailer.new.Goals as goal

pub invariant_of-result : goal.invariant_of-result
invariant_of-result g c =
    made_valid g.Q.LetterProgram.rules g.met.Q.LetterProgram.laws c.args.q _ _ c.known.ensures c.in_ok-outgoing.ensures
    (c.in_ok-begun.ensures ∙ ap (λ n. replicate n []) c.ranks.ensures)
