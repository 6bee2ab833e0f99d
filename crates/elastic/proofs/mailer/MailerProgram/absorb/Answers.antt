use Rattle.std.proofs.Common.{[], ◌∷◌, map, refl, sym, subst, ◌∙◌}
use Rattle.std.proofs.lemmas.List.{length-map}
use Rattle.round_program.specs.Laws.{Fits}
use Rattle.elastic.specs.Spelling.{IsLetter}
use Rattle.elastic.specs.Mails.{letter_of, with_next_item, mail_rules}
use Rattle.elastic.specs.code.MailView.{mail_state}
use Rattle.elastic.specs.laws.MailLaws.{letter_is, sender_low}
use Rattle.elastic.proofs.Steps.{taken_valid}
use Rattle.elastic.proofs.mailer.MailerProgram.absorb.Goals as goal

-- a letter alone leaves what the senders have begun as it was
pub invariant_of-self : goal.invariant_of-self
invariant_of-self g c =
    taken_valid g.Q.LetterProgram.rules g.met.Q.LetterProgram.laws (mail_state c.self.inside) c.hand_over_item.new.inner c.args.from (letter_of (c.args.item ∷ [])) c.hand_over_item.result _ c.self.invariant
    (sender_low g.Q.LetterProgram.rules (mail_state c.self.inside) c.args.from c.args.item (subst (λ s. Fits (mail_rules g.Q.LetterProgram.rules) s c.args.from c.args.item) (sym c.self.view_is) c.requires))
    (letter_is (c.args.item ∷ []))
    c.hand_over_item.ensures.valid c.hand_over_item.ensures.absorbed c.hand_over_item.ensures.refused refl

pub hand_over-requires-clause-letter : goal.hand_over-requires-clause-letter
hand_over-requires-clause-letter g c =
    subst IsLetter (sym (c.deref.ensures.value ∙ c.in_ok-take_from.ensures.letter c.if-branch.true)) (letter_is (with_next_item (map (λ l. l.items) c.self.inside.begun.items) c.args.from c.args.item))

pub invariant_of-self-then-branch : goal.invariant_of-self-then-branch
invariant_of-self-then-branch g c =
    taken_valid g.Q.LetterProgram.rules g.met.Q.LetterProgram.laws (mail_state c.self.inside) c.hand_over.new.inner c.args.from c.deref.result.now c.hand_over.result _ c.self.invariant
    (sender_low g.Q.LetterProgram.rules (mail_state c.self.inside) c.args.from c.args.item (subst (λ s. Fits (mail_rules g.Q.LetterProgram.rules) s c.args.from c.args.item) (sym c.self.view_is) c.requires))
    (subst IsLetter (sym (c.deref.ensures.value ∙ c.in_ok-take_from.ensures.letter c.if-branch.true)) (letter_is (with_next_item (map (λ l. l.items) c.self.inside.begun.items) c.args.from c.args.item)))
    c.hand_over.ensures.valid c.hand_over.ensures.absorbed c.hand_over.ensures.refused
    (length-map c.take_from.new.begun.items (λ l. l.items) ∙ c.take_from.ensures.senders ∙ sym (length-map c.self.inside.begun.items (λ l. l.items)))
