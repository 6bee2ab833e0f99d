use Rattle.std.proofs.Common.{◌<◌, length, Some, None, refl, sym, ap, subst, ◌∙◌}
use Rattle.query_node.proofs.Heard.{line_low, heard_one}
use Rattle.query_node.proofs.hearing.hear_one.Goals as goal

pub hear-requires : goal.hear-requires
hear-requires g c =
    let T = g.A.Asker.talk in
    let h = c.requires.heard in
    let low = line_low T h.0 c.args.asker.now.value (length c.args.lines.now.items) c.args.from c.args.lines.now.items h.1 c.in-Some.i h.2 c.requires.from (λ xs is. sym c.in-Some.is ∙ c.next_of.ensures.first xs is) in
    subst (λ t. c.in-Some.i < length (T.queries t)) (sym c.deref_mut.ensures.value) low

pub returns-in-Some : goal.returns-in-Some
returns-in-Some g c =
    let T = g.A.Asker.talk in
    let h = c.requires.heard in
    let s = c.args.asker.now.value in
    let new = c.hear.ensures ∙ ap (λ t. T.heard t c.in-Some.i c.args.reply) c.deref_mut.ensures.value in
    let low = line_low T h.0 s (length c.args.lines.now.items) c.args.from c.args.lines.now.items h.1 c.in-Some.i h.2 c.requires.from (λ xs is. sym c.in-Some.is ∙ c.next_of.ensures.first xs is) in
    record {
      talk = ap T.queries new ∙ (g.met.A.Asker.laws.keeps s c.in-Some.i c.args.reply h.2.same.valid low c.ranges.reply.fits).queries;
      on = λ start came x word is.
          heard_one T g.met.A.Asker.laws start s c.hear.new.self (length c.args.lines.now.items) c.args.from x c.args.lines.now.items c.next_of.new.lines.items came (Some c.in-Some.i) is c.requires.from
          (subst (λ v. v < 18446744073709551616) (sym word) c.ranges.reply.fits) (λ xs at. sym c.in-Some.is ∙ c.next_of.ensures.first xs at) c.next_of.ensures.here c.next_of.ensures.others c.next_of.ensures.all
          (new ∙ ap (T.heard s c.in-Some.i) (sym word));
    }

pub returns-in_default : goal.returns-in_default
returns-in_default g c =
    let T = g.A.Asker.talk in
    record {
      talk = refl;
      on = λ start came x word is.
          heard_one T g.met.A.Asker.laws start c.args.asker.now.value c.args.asker.now.value (length c.args.lines.now.items) c.args.from x c.args.lines.now.items c.next_of.new.lines.items came None is c.requires.from
          (subst (λ v. v < 18446744073709551616) (sym word) c.ranges.reply.fits) (λ xs at. sym c.in_default.is ∙ c.next_of.ensures.first xs at) c.next_of.ensures.here c.next_of.ensures.others c.next_of.ensures.all refl;
    }
