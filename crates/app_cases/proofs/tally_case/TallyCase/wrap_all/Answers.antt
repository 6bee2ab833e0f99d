use Rattle.std.proofs.Common.{◌≡◌, None, slice_get, rules, sym, subst, ◌∙◌}
use Rattle.app_cases.proofs.Moving.{Moved, all_moved, none_moved, one_moved}
use Rattle.app_cases.proofs.tally_case.TallyCase.wrap_all.Goals as goal

pub loop-mailer-init : goal.loop-mailer-init
loop-mailer-init c = subst (λ done. Moved c.args.mailers done c.args.mailers) (sym c.new-all.ensures) (none_moved c.args.mailers)

pub loop-mailer-preserved : goal.loop-mailer-preserved
loop-mailer-preserved c =
    one_moved c.args.mailers c.loop-mailer.all c.add.new.self c.loop-mailer.mailers c.take_first.new.self c.in-Some.mailer c.loop-mailer.invariant (sym c.take_first.ensures.first ∙ c.in-Some.is) c.take_first.ensures.rest
    c.in_ok-add.ensures.added

pub returns : goal.returns
returns c =
    let none : slice_get c.loop-mailer.mailers 0 ≡ None = search rules in
    all_moved c.args.mailers c.loop-mailer.all c.loop-mailer.mailers c.loop-mailer.invariant none
