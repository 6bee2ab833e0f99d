use Rattle.std.proofs.Common.{◌∙◌, ap, ◌+◌, length, Ok}
use Rattle.mtx_text.specs.Lines.{lines_of, lines_from}
use Rattle.mtx_text.specs.code.Drafts.{verdict_at}
use Rattle.mtx_text.proofs.Decides.{decided}
use Rattle.mtx_text.proofs.entries.read_entries.Goals as goal

pub returns-in-None : goal.returns-in-None
returns-in-None g c =
    let end = c.args.number + length (lines_of c.args.text.now) in
    let lines = lines_from c.args.number (lines_of c.args.text.now) in
    let apart = c.are_apart.ensures (c.in_ok-are_apart.was ∙ ap Ok c.if-not-branch.false) in
    decided c.args.form c.args.sizes end lines c.args.sizes.entries c.in_ok-entries.field-0.entries.items c.as_slice.result.now c.in_ok-entries.field-0.stop c.as_slice.ensures.value apart c.in_ok-entries.ensures.draft
    ∙ ap (verdict_at c.in_ok-entries.field-0.entries.items) c.in-None.is

pub returns-in-Some : goal.returns-in-Some
returns-in-Some g c =
    let end = c.args.number + length (lines_of c.args.text.now) in
    let lines = lines_from c.args.number (lines_of c.args.text.now) in
    let apart = c.are_apart.ensures (c.in_ok-are_apart.was ∙ ap Ok c.if-not-branch.false) in
    decided c.args.form c.args.sizes end lines c.args.sizes.entries c.in_ok-entries.field-0.entries.items c.as_slice.result.now c.in_ok-entries.field-0.stop c.as_slice.ensures.value apart c.in_ok-entries.ensures.draft
    ∙ ap (verdict_at c.in_ok-entries.field-0.entries.items) c.in-Some.is
