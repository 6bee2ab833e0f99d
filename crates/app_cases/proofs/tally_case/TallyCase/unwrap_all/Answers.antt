use Rattle.std.proofs.Common.{◌≡◌, [], ◌∷◌, ◌++◌, None, slice_get, rules, sym, ap, subst, ◌∙◌}
use Rattle.app_cases.proofs.Moving.{Moved, all_moved, none_moved, one_moved}
use Rattle.app_cases.proofs.tally_case.TallyCase.unwrap_all.Goals as goal

pub loop-case-init : goal.loop-case-init
loop-case-init c = subst (λ done. Moved c.args.cases done c.args.cases) (sym c.new-all.ensures) (none_moved c.args.cases)

pub loop-case-preserved : goal.loop-case-preserved
loop-case-preserved c =
    one_moved c.args.cases c.loop-case.all c.add.new.self c.loop-case.cases c.take_first.new.self c.in-Some.case c.loop-case.invariant (sym c.take_first.ensures.first ∙ c.in-Some.is) c.take_first.ensures.rest
    (c.in_ok-add.ensures.added ∙ ap (λ m. c.loop-case.all ++ m ∷ []) c.case.view_is)

pub returns : goal.returns
returns c =
    let none : slice_get c.loop-case.cases 0 ≡ None = search rules in
    all_moved c.args.cases c.loop-case.all c.loop-case.cases c.loop-case.invariant none
