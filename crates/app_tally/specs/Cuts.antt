-- What cutting a text gives.
use Rattle.std.specs.Prelude.{ℕ, ◌≤◌, ◌≡◌, List, Some, None, length}
use Rattle.mtx_text.specs.Lines.{pieces}
use Rattle.app_tally.specs.declared.lines.Cut.{Cut}
use Rattle.app_tally.specs.declared.lines.Cut.TheVariants.{Lines, Long}
use Rattle.app_tally.specs.declared.strings.Span.{Span}
use Rattle.app_tally.specs.Stores.{strings_at, IsStore}
use Rattle.app_tally.specs.Texts.{first_long}

-- the lines of a text, each of which may be sent
pub record IsWhole (text : List ℕ) (spans : List Span) : Type 0 where
  pub store : IsStore text spans
  pub few : length spans ≤ 16_777_216
  pub lines : strings_at text spans ≡ pieces text
  pub fit : first_long 1 (pieces text) ≡ None

abbrev pub IsCut : List ℕ → Cut → Type 0
IsCut text (Lines spans) = IsWhole text spans.items
IsCut text (Long n) = first_long 1 (pieces text) ≡ Some n
