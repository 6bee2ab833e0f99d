use Rattle.std.proofs.Common.{ℕ, List, Option, Result, Ok, Err, ap, sym, ◌∙◌, subst}
use Rattle.std.proofs.lemmas.Result.{err_from_is_err_and}
use Rattle.rank_handles.specs.declared.answer.Answer.{Answer}
use Rattle.rank_handles.specs.Seated.{Seated}
use Rattle.rank_handles.specs.ElasticKept.{StringPulled, ItemPulled}
use Rattle.rank_handles.proofs.StringPulls.{no_string_none, no_string_both, pulled_after, string_given}
use Rattle.rank_handles.proofs.strings.pull_string.Goals as goal

pub loop-from-init : goal.loop-from-init
loop-from-init c = (no_string_none c.args.rank.now, c.requires.read)

pub returns-in_err-from-clause-pulled : goal.returns-in_err-from-clause-pulled
returns-in_err-from-clause-pulled c =
    let e = err_from_is_err_and c.from_residual.result c.from_residual.ensures.1 in let l : List ℕ = c.pull_item.new.letter.items in
    subst (λ (r : Result ℕ Answer). StringPulled r l c.args.rank.now c.pull_item.new.rank) (sym (e.1 ∙ ap Err e.2))
    (pulled_after (Err c.in_err-from.field-0.0) l c.args.rank.now c.loop-from.rank c.pull_item.new.rank c.loop-from.invariant.0 c.in_err-from.ensures.pulled)

pub returns-in-Some-clause-pulled : goal.returns-in-Some-clause-pulled
returns-in-Some-clause-pulled c =
    let l : List ℕ = c.pull_item.new.letter.items in let b : Seated = c.loop-from.rank in let d : Seated = c.pull_item.new.rank in
    pulled_after (Ok c.in-Some.from) l c.args.rank.now b d c.loop-from.invariant.0
    (string_given c.in-Some.from l b d (subst (λ (o : Option ℕ). ItemPulled (Ok o) l b d) c.in-Some.is c.in_ok-from.ensures.pulled))

pub loop-from-preserved : goal.loop-from-preserved
loop-from-preserved c =
    let l : List ℕ = c.pull_item.new.letter.items in let b : Seated = c.loop-from.rank in let d : Seated = c.pull_item.new.rank in
    (no_string_both c.args.rank.now b d c.loop-from.invariant.0 (subst (λ (o : Option ℕ). ItemPulled (Ok o) l b d) c.in_default.is c.in_ok-from.ensures.pulled).0, c.in_ok-from.ensures.read)
