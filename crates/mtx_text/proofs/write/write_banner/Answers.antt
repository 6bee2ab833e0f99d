use Rattle.std.proofs.Common.{sym, subst}
use Rattle.bale_types.specs.Out.{Writes}
use Rattle.mtx_text.specs.Written.{banner_text}
use Rattle.mtx_text.proofs.write.write_banner.Goals as goal

pub returns-in-Integer : goal.returns-in-Integer
returns-in-Integer g c =
    subst (λ kind. Writes g.K.Sink.taken g.K.Sink.faults (banner_text kind) c.args.out.now c.text.new.self c.text.result) (sym c.in-Integer.is) c.text.ensures.written

pub returns-in-Pattern : goal.returns-in-Pattern
returns-in-Pattern g c =
    subst (λ kind. Writes g.K.Sink.taken g.K.Sink.faults (banner_text kind) c.args.out.now c.text-in-Pattern.new.self c.text-in-Pattern.result) (sym c.in-Pattern.is) c.text-in-Pattern.ensures.written
