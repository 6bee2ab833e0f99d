use Rattle.std.proofs.Common.{◌≡◌, ◌+◌, ◌≤◌, [], true, length}
use Rattle.mtx_text.specs.Lines.{lines_of, lines_from}
use Rattle.mtx_text.specs.Grammar.{entries_of}
use Rattle.mtx_text.specs.code.Places.{Tracks, narrow}
use Rattle.mtx_text.proofs.careful.read_carefully.Given as goal

abbrev pub invariant-loop-kept : goal.invariant-loop-kept
invariant-loop-kept l =
    let end = l.fn.number + length (lines_of l.text) in
    (entries_of l.form l.sizes end l.left l.entries.items (lines_from l.number (lines_of l.rest))
    ≡ entries_of l.form l.sizes end l.sizes.entries [] (lines_from l.fn.number (lines_of l.text)))
    × (l.number + length (lines_of l.rest) ≡ end)
    × Tracks l.seen l.entries.items
    × (narrow l.entries.items ≡ true)
    × (l.number + length l.rest ≤ l.fn.number + length l.text)

abbrev pub decreases-loop-kept : goal.decreases-loop-kept
decreases-loop-kept l = length l.rest
