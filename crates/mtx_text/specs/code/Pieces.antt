-- Plain lines of a matrix without mirrors, read into a list that has a place for each.
use Rattle.std.specs.Prelude.{ℕ, ◌≡◌, ◌≤◌, ◌+◌, ◌-◌, List, ◌++◌, length, take, drop, max}
use Rattle.std.specs.List.{All}
use Rattle.bale_items.specs.declared.triple.Triple.{Triple}
use Rattle.mtx_text.specs.declared.banner.Form.{Form}
use Rattle.mtx_text.specs.declared.banner.Symmetry.TheVariants.{General}
use Rattle.mtx_text.specs.declared.kind.Kind.{Kind}
use Rattle.mtx_text.specs.declared.piece.Piece.{Piece}
use Rattle.mtx_text.specs.declared.sizes.Sizes.{Sizes}
use Rattle.mtx_text.specs.Lines.{lines_of, lines_from}
use Rattle.mtx_text.specs.code.Chains.{IsBelowSide}
use Rattle.mtx_text.specs.code.Drafts.{draft_of}

-- A form without mirrors.
abbrev pub general : Kind → Form
general kind = record { kind = kind; symmetry = General }

-- A text's first lines were read, and their entries are the first of `new`. If at least as many
-- lines are still to come, the draft of the text is that of its rest after those entries.
-- lines: the text has so many lines more than its rest
-- fits, short, within: each line has a place in `new` and at least one byte of the text
-- inside: rows and columns are within the sizes
-- same: `new` has as many places as `old`
--   "1 2/2 1/% end/" with two places: two lines of eight bytes, and the entries (0,1,1) and (1,0,1)
pub record ReadsPiece (kind : Kind) (sizes : Sizes) (text : List ℕ) (old new : List Triple) (p : Piece) : Type 0 where
  pub draft : (end left number : ℕ) (done : List Triple) → p.lines ≤ left
      → draft_of (general kind) sizes end left done (lines_from number (lines_of text))
      ≡ draft_of (general kind) sizes end (left - p.lines) (done ++ take p.lines new)
      (lines_from (number + p.lines) (lines_of (drop p.bytes text)))
  pub lines : length (lines_of text) ≡ p.lines + length (lines_of (drop p.bytes text))
  pub fits : p.lines ≤ length new
  pub short : p.lines ≤ p.bytes
  pub within : p.bytes ≤ length text
  pub inside : All (λ t. IsBelowSide (max sizes.rows sizes.cols) t) (take p.lines new)
  pub same : length new ≡ length old
