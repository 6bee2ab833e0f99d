use Rattle.std.proofs.Common.{◌∙◌, sym, rules, arith, ◌+◌, length}
use Rattle.mtx_text.specs.Lines.{Line, lines_of, lines_from, words_of}
use Rattle.mtx_text.proofs.Walk.{step_ok, step_bad}
use Rattle.mtx_text.proofs.careful.read_carefully.Goals as goal

pub returns-in-Err-read_entry : goal.returns-in-Err-read_entry
returns-in-Err-read_entry c =
    let inv = c.loop-kept.invariant in
    let end = c.args.number + length (lines_of c.args.text.now) in
    let line : Line = record { number = c.in-Ok.kept.number; words = words_of c.in-Ok.kept.line.now } in
    let read = c.in-Err-read_entry.ensures.value c.loop-kept.entries.items inv.2 inv.3 in
    let step = step_bad c.args.form c.args.sizes end c.loop-kept.left c.loop-kept.entries.items (lines_from c.loop-kept.number (lines_of c.loop-kept.rest.now)) line (lines_from (c.in-Ok.kept.number + 1) (lines_of c.in-Ok.kept.rest.now)) c.in-Err-read_entry.reason c.in-Ok.ensures.kept.kept (search rules) (sym read) in
    rw c.bad-in-Err-read_entry.ensures (sym inv.0 ∙ step)

pub loop-kept-preserved : goal.loop-kept-preserved
loop-kept-preserved c =
    let inv = c.loop-kept.invariant in
    let end = c.args.number + length (lines_of c.args.text.now) in
    let line : Line = record { number = c.in-Ok.kept.number; words = words_of c.in-Ok.kept.line.now } in
    let read = c.in-Ok-read_entry.ensures.value c.loop-kept.entries.items inv.2 inv.3 in
    let step = step_ok c.args.form c.args.sizes end c.loop-kept.left c.loop-kept.entries.items (lines_from c.loop-kept.number (lines_of c.loop-kept.rest.now)) line (lines_from (c.in-Ok.kept.number + 1) (lines_of c.in-Ok.kept.rest.now)) c.in-Ok-read_entry.t c.in-Ok.ensures.kept.kept (search rules) (sym read) in (
      rw c.in_ok-add-in-Ok-read_entry.ensures.entries (sym step ∙ inv.0),
      c.in-Ok.ensures.kept.left ∙ inv.1,
      c.in_ok-add-in-Ok-read_entry.ensures.tracks inv.2,
      c.in_ok-add-in-Ok-read_entry.ensures.narrow inv.3,
      omega (arith, c.in-Ok.ensures.kept.room, inv.4),
    )
