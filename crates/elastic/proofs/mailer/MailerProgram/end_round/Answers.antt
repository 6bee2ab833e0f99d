use Rattle.std.proofs.Common.{length, sym}
use Rattle.std.proofs.lemmas.List.{length-map}
use Rattle.elastic.specs.code.MailView.{mail_state}
use Rattle.elastic.proofs.Steps.{ended_valid}
use Rattle.elastic.proofs.mailer.MailerProgram.end_round.Goals as goal

pub invariant_of-self-2 : goal.invariant_of-self-2
invariant_of-self-2 g c =
    ended_valid g.Q.LetterProgram.rules g.met.Q.LetterProgram.laws (mail_state c.self.inside) c.end.new.inner c.args.votes (length c.self.inside.begun.items) _ _ c.self.invariant c.ranges.votes.fits c.end.ensures.valid
    c.in_ok-more.ensures.ended c.in_ok-self-inside.ensures (sym (length-map c.self.inside.begun.items (λ l. l.items))) c.forget_all.ensures
