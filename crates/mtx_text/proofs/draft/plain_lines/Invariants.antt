use Rattle.std.proofs.Common.{◌≡◌, ◌+◌, ◌-◌, ◌*◌, ◌≤◌, ℕ, max, length}
use Rattle.std.specs.List.{All}
use Rattle.mtx_text.specs.Lines.{lines_of, lines_from}
use Rattle.mtx_text.specs.code.Drafts.{draft_of}
use Rattle.mtx_text.specs.code.Chains.{IsBelowSide}
use Rattle.mtx_text.proofs.draft.plain_lines.Given as goal

abbrev pub invariant-loop-left : goal.invariant-loop-left
invariant-loop-left l = record {
  draft : (end : ℕ) → draft_of l.form l.sizes end l.left l.entries.items (lines_from (l.run.number + (l.run.left - l.left)) (lines_of l.rest))
      ≡ draft_of l.form l.sizes end l.run.left l.fn.entries.items (lines_from l.run.number (lines_of l.run.rest.now));
  lines : l.run.number + (l.run.left - l.left) + length (lines_of l.rest) ≡ l.run.number + length (lines_of l.run.rest.now);
  room : l.run.number + (l.run.left - l.left) + length l.rest ≤ l.run.number + length l.run.rest.now;
  on : length l.rest ≤ length l.run.rest.now;
  less : l.left ≤ l.run.left;
  within : All (λ t. IsBelowSide (max l.sizes.rows l.sizes.cols) t) l.fn.entries.items → All (λ t. IsBelowSide (max l.sizes.rows l.sizes.cols) t) l.entries.items;
  few : length l.entries.items + 2 * l.left ≤ length l.fn.entries.items + 2 * l.run.left;
}

abbrev pub decreases-loop-left : goal.decreases-loop-left
decreases-loop-left l = length l.rest
