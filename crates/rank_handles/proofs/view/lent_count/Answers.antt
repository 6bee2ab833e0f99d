use Rattle.std.proofs.Common.{◌≡◌, ℕ, List, length, take, Option, Some, refl, sym, ap, ◌∙◌, subst}
use Rattle.bale_items.specs.declared.item.Entry.{Entry}
use Rattle.hop_core.specs.State.{State, pulls}
use Rattle.rank_handles.specs.RankAtBank.{RunOf}
use Rattle.rank_handles.specs.Views.{lent, lender, pull_steps}
use Rattle.rank_handles.proofs.Views.{lent_run, none_run, none_lent}
use Rattle.rank_handles.proofs.view.lent_count.Goals as goal

pub returns-in-Some-clause-run : goal.returns-in-Some-clause-run
returns-in-Some-clause-run g c = λ n few.
    let st : State = c.args.conveyor.now in let v = c.in-Some.view in
    subst (λ (o : Option ℕ). RunOf (pull_steps o (take n (lent st))) st (pulls n st)) c.in-Some.ensures.from
    (subst (λ (es : List Entry). RunOf (pull_steps (Some v.from) (take n es)) st (pulls n st)) c.in-Some.ensures.entries (lent_run st v.from v.entries.now n few c.in-Some.ensures.gives))

pub returns-in-None-clause-value : goal.returns-in-None-clause-value
returns-in-None-clause-value g c = sym (ap length (none_lent c.args.conveyor.now (c.lent_view.ensures.none c.in-None.is)))

pub returns-in-None-clause-run : goal.returns-in-None-clause-run
returns-in-None-clause-run g c = λ n few. none_run c.args.conveyor.now n few (c.lent_view.ensures.none c.in-None.is)
