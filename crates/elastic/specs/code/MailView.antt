-- The state of a mailer, read from its fields.
use Rattle.std.specs.Prelude.{map}
use Rattle.elastic.specs.declared.mailer.Mailer.TheInside.{Inside}
use Rattle.elastic.specs.Mails.{MailState}

abbrev pub mail_state : {Q : Type 0} → Inside Q → MailState Q
mail_state m = record { inner = m.inner; outgoing = m.outgoing.items; begun = map (λ l. l.items) m.begun.items }
