-- Lines of entries, cut behind the row: entries of one row share that front.
use Rattle.std.specs.Prelude.{ℕ, ℤ, ◌≡◌, ◌≤◌, ◌<◌, ◌+◌, Option, None, Some, List, [], ◌∷◌, ◌++◌, length, decimal}
use Rattle.std.specs.Fmt.{signed_decimal}
use Rattle.mtx_text.specs.declared.kind.Kind.{Kind}
use Rattle.mtx_text.specs.declared.kind.Kind.TheVariants as kind

-- The front of an entry's line, which names its row, from 1.
abbrev pub row_text : ℕ → List ℕ
row_text row = decimal row ++ 32 ∷ []

-- What follows it: the column, which counts from 0 and is written from 1, and the value in an
-- integer matrix.
abbrev pub rest_text : Kind → ℕ → ℤ → List ℕ
rest_text kind.Integer column value = decimal (column + 1) ++ 32 ∷ [] ++ signed_decimal value ++ 10 ∷ []
rest_text kind.Pattern column value = decimal (column + 1) ++ 10 ∷ []

-- The line of an entry whose row has that front; without a kind there is none yet.
abbrev pub line_of : List ℕ → Option Kind → ℕ → ℤ → List ℕ
line_of front None column value = []
line_of front (Some kind) column value = front ++ rest_text kind column value

-- The front names the row, if there is one.
--   "12 " names row 12
pub record Names (row : ℕ) (front : List ℕ) : Type 0 where
  pub short : length front ≤ 21
  pub bytes : 0 < row → front ≡ row_text row
