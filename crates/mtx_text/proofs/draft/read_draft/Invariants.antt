use Rattle.std.proofs.Common.{◌≡◌, ◌+◌, ◌*◌, ◌≤◌, [], max, length}
use Rattle.std.specs.List.{All}
use Rattle.mtx_text.specs.Lines.{lines_of, lines_from}
use Rattle.mtx_text.specs.code.Drafts.{draft_of}
use Rattle.mtx_text.specs.code.Chains.{IsBelowSide}
use Rattle.mtx_text.proofs.draft.read_draft.Given as goal

abbrev pub invariant-loop-entries : goal.invariant-loop-entries
invariant-loop-entries g l =
    let end = l.fn.number + length (lines_of l.text) in
    (draft_of l.form l.sizes end l.run.left l.entries.items (lines_from l.run.number (lines_of l.run.rest.now))
    ≡ draft_of l.form l.sizes end l.sizes.entries [] (lines_from l.fn.number (lines_of l.text)))
    × (l.run.number + length (lines_of l.run.rest.now) ≡ end)
    × All (λ t. IsBelowSide (max l.sizes.rows l.sizes.cols) t) l.entries.items
    × (length l.entries.items + 2 * l.run.left ≤ 2 * l.sizes.entries)
    × (l.run.number + length l.run.rest.now ≤ l.fn.number + length l.text)

abbrev pub decreases-loop-entries : goal.decreases-loop-entries
decreases-loop-entries g l = length l.run.rest.now
