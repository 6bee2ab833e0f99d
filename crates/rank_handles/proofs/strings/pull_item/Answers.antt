use Rattle.std.proofs.Common.{◌<◌, ℕ, Option, Result, Err, ap, sym, ◌∙◌, subst}
use Rattle.std.proofs.lemmas.List.{length-map}
use Rattle.std.proofs.lemmas.Result.{err_from_is_err_and}
use Rattle.rank_handles.specs.declared.answer.Answer.{Answer}
use Rattle.rank_handles.specs.ElasticKept.{KeepsBegun, ItemPulled}
use Rattle.rank_handles.proofs.StringPulls.{item_none, item_known, item_whole, item_part, item_read, item_back, string_refused}
use Rattle.rank_handles.proofs.strings.pull_item.Goals as goal

pub returns-in_err-from-clause-pulled : goal.returns-in_err-from-clause-pulled
returns-in_err-from-clause-pulled c =
    let e = err_from_is_err_and c.from_residual.result c.from_residual.ensures.1 in
    subst (λ (r : Result (Option ℕ) Answer). ItemPulled r c.args.letter.now.items c.args.rank.now c.pull.new.self) (sym (e.1 ∙ ap Err e.2))
    (item_none c.args.letter.now.items _ c.args.rank.now c.pull.new.self c.in_err-from.field-0.0 c.requires.begun c.requires.read (sym c.in_err-from.ensures.value) c.pull.ensures.pulls).0

pub returns-in_err-from-clause-read : goal.returns-in_err-from-clause-read
returns-in_err-from-clause-read c =
    (item_none c.args.letter.now.items _ c.args.rank.now c.pull.new.self c.in_err-from.field-0.0 c.requires.begun c.requires.read (sym c.in_err-from.ensures.value) c.pull.ensures.pulls).1

pub take_from-requires : goal.take_from-requires
take_from-requires c =
    subst (λ (n : ℕ). c.in_ok-from.from < n) (length-map c.args.begun.now.items _)
    (item_known _ c.in_ok-from.from c.in_ok-from.item c.args.rank.now c.pull.new.self c.requires.read (sym c.in_ok-from.ensures.value) c.pull.ensures.pulls)

pub returns-in-Ok-true-clause-pulled : goal.returns-in-Ok-true-clause-pulled
returns-in-Ok-true-clause-pulled c =
    item_whole _ c.in_ok-from.from c.in_ok-from.item c.args.rank.now c.pull.new.self c.requires.read (sym c.in_ok-from.ensures.value) c.pull.ensures.pulls
    c.take_from.new.letter.items (sym c.in-Ok-true.ensures.whole ∙ c.in-Ok-true.field-0-test) (c.in-Ok-true.ensures.letter c.in-Ok-true.field-0-test)

pub returns-in-Ok-true-clause-read : goal.returns-in-Ok-true-clause-read
returns-in-Ok-true-clause-read c =
    item_read _ c.in_ok-from.from c.in_ok-from.item c.args.rank.now c.pull.new.self c.requires.read (sym c.in_ok-from.ensures.value) c.pull.ensures.pulls _ c.in-Ok-true.ensures.begun

pub returns-in-Ok-false-clause-pulled : goal.returns-in-Ok-false-clause-pulled
returns-in-Ok-false-clause-pulled c =
    item_part _ c.in_ok-from.from c.in_ok-from.item c.args.rank.now c.pull.new.self c.requires.read (sym c.in_ok-from.ensures.value) c.pull.ensures.pulls
    (sym c.in-Ok-false.ensures.whole ∙ c.in-Ok-false.field-0-test)

pub returns-in-Ok-false-clause-read : goal.returns-in-Ok-false-clause-read
returns-in-Ok-false-clause-read c =
    item_read _ c.in_ok-from.from c.in_ok-from.item c.args.rank.now c.pull.new.self c.requires.read (sym c.in_ok-from.ensures.value) c.pull.ensures.pulls _ c.in-Ok-false.ensures.begun

pub returns-in-Err-clause-pulled : goal.returns-in-Err-clause-pulled
returns-in-Err-clause-pulled c =
    string_refused c.take_from.new.letter.items c.args.rank.now c.unpull.new.self
    (item_back _ c.in_ok-from.from c.in_ok-from.item c.args.rank.now c.pull.new.self c.requires.read (sym c.in_ok-from.ensures.value) c.pull.ensures.pulls c.unpull.new.self c.unpull.ensures.unpulls).0

pub returns-in-Err-clause-read : goal.returns-in-Err-clause-read
returns-in-Err-clause-read c =
    subst (KeepsBegun c.unpull.new.self) (sym c.in-Err.ensures.unchanged)
    (item_back _ c.in_ok-from.from c.in_ok-from.item c.args.rank.now c.pull.new.self c.requires.read (sym c.in_ok-from.ensures.value) c.pull.ensures.pulls c.unpull.new.self c.unpull.ensures.unpulls).1
