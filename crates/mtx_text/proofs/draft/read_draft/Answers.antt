use Rattle.std.proofs.Common.{◌∙◌, sym, rules, ◌+◌, length, arith}
use Rattle.mtx_text.specs.Lines.{Line, lines_of, lines_from, words_of}
use Rattle.mtx_text.proofs.EntryLines.{cell_inside}
use Rattle.mtx_text.proofs.Steps.{draft_bad, draft_over}
use Rattle.mtx_text.proofs.draft.read_draft.Goals as goal

pub returns-then-run-eq0 : goal.returns-then-run-eq0
returns-then-run-eq0 g c =
    let run = c.in_ok-run.run' in
    let kept = c.in-Ok.entry.kept in
    let end = c.args.number + length (lines_of c.args.text.now) in
    let line : Line = record { number = kept.number; words = words_of kept.line.now } in
    let step = draft_over c.args.form c.args.sizes end run.left c.read_plain.new.entries.items (lines_from run.number (lines_of run.rest.now)) line (lines_from (kept.number + 1) (lines_of kept.rest.now)) c.in-Ok.ensures.next.kept.kept c.if-run-eq0.true in
    record {
      draft = rw c.bad-then-run-eq0.ensures (sym step ∙ c.in_ok-run.ensures.draft end ∙ c.loop-entries.invariant.0);
      within = c.in_ok-run.ensures.within c.loop-entries.invariant.2;
      few = omega (arith, c.in_ok-run.ensures.few, c.loop-entries.invariant.3, c.requires.text.limits.short);
    }

pub returns-in-Err-cell : goal.returns-in-Err-cell
returns-in-Err-cell g c =
    let run = c.in_ok-run.run' in
    let kept = c.in-Ok.entry.kept in
    let end = c.args.number + length (lines_of c.args.text.now) in
    let line : Line = record { number = kept.number; words = words_of kept.line.now } in
    let step = draft_bad c.args.form c.args.sizes end run.left c.read_plain.new.entries.items (lines_from run.number (lines_of run.rest.now)) line (lines_from (kept.number + 1) (lines_of kept.rest.now)) c.in-Err-cell.reason c.in-Ok.ensures.next.kept.kept (search rules) (sym c.in-Ok.ensures.next.value ∙ c.in-Err-cell.is) in
    record {
      draft = rw c.bad-in-Err-cell.ensures (sym step ∙ c.in_ok-run.ensures.draft end ∙ c.loop-entries.invariant.0);
      within = c.in_ok-run.ensures.within c.loop-entries.invariant.2;
      few = omega (arith, c.in_ok-run.ensures.few, c.loop-entries.invariant.3, c.requires.text.limits.short);
    }

pub push-requires : goal.push-requires
push-requires g c = cell_inside c.args.form c.args.sizes _ c.in-Ok-cell.t c.in-Ok.entry.cell c.in-Ok.ensures.next.value c.in-Ok-cell.is
