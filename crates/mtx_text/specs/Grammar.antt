-- The matrix of a text: the Matrix Market exchange format in coordinate form, as this project reads
-- it.
-- Too long is decided first, on the whole text. Else the lines are read in order and the first bad
-- line decides.
use Rattle.std.specs.Prelude.{ℕ, ◌≤◌, ◌+◌, ◌-◌, ◌==◌, ◌&&◌, ◌||◌, not, Bool, true, false, List, [], ◌∷◌, ◌++◌, length}
use Rattle.std.specs.Prelude.{if◌then◌else◌}
use Rattle.std.specs.Prelude.{map, take, drop, count_by, ℤ, neg_ℤ, Option, Some, None, ok_or, Result, Ok, Err, nat_lt}
use Rattle.std.specs.Prelude.{nat_le, codes}
use Rattle.std.specs.List.{list_any}
use Rattle.std.specs.Option.{option_map}
use Rattle.std.specs.Char.{to_ascii_lowercase}
use Rattle.std.specs.Str.{bytes_eq}
use Rattle.bale_items.specs.declared.triple.Triple.{Triple}
use Rattle.mtx_text.specs.declared.integer.Integer.{Integer}
use Rattle.mtx_text.specs.declared.kind.Kind.{Kind}
use Rattle.mtx_text.specs.declared.kind.Kind.TheVariants as kind
use Rattle.mtx_text.specs.declared.banner.Form.{Form}
use Rattle.mtx_text.specs.declared.banner.Symmetry.{Symmetry}
use Rattle.mtx_text.specs.declared.banner.Symmetry.TheVariants.{General, Symmetric, SkewSymmetric}
use Rattle.mtx_text.specs.declared.sizes.Sizes.{Sizes}
use Rattle.mtx_text.specs.declared.refusal.Reason.{Reason}
use Rattle.mtx_text.specs.declared.refusal.Reason.TheVariants as reason
use Rattle.mtx_text.specs.declared.refusal.BadLine.{BadLine}
use Rattle.mtx_text.specs.Lines.{Line, lines_of, lines_from, words_of}
use Rattle.mtx_text.specs.Integers.{integer_of, is_natural, value_of}
use Rattle.mtx_text.specs.Sparse.{Sparse, AreSides}

-- ---- Steps that may refuse

-- The second step, if the first gave a value: the `?` of the definitions.
infixl 10 ◌>>=◌
abbrev pub ◌>>=◌ : {A B E : Type 0} → Result A E → (A → Result B E) → Result B E
Ok x >>= next = next x
Err e >>= next = Err e

abbrev pub bad : ℕ → Reason → BadLine
bad n why = record { line = n; reason = why }

-- What line n was read as, or that line with the reason why it is bad.
abbrev pub in_line : {A : Type 0} → ℕ → Result A Reason → Result A BadLine
in_line n (Ok x) = Ok x
in_line n (Err why) = Err (bad n why)

-- Exactly two words, exactly three words.
abbrev pub two_of : List (List ℕ) → Option (List ℕ × List ℕ)
two_of (a ∷ b ∷ []) = Some (a, b)
two_of _ = None

abbrev pub three_of : List (List ℕ) → Option (List ℕ × List ℕ × List ℕ)
three_of (a ∷ b ∷ c ∷ []) = Some (a, b, c)
three_of _ = None

-- ---- Line 1

-- Whether a word is the one given, without regard to ASCII case.
abbrev pub spells : List ℕ → List ℕ → Bool
spells text word = bytes_eq (map to_ascii_lowercase word) (map to_ascii_lowercase text)

abbrev pub kind_of : List ℕ → Option Kind
kind_of word =
    if spells (codes "integer") word then Some kind.Integer
    else if spells (codes "pattern") word then Some kind.Pattern
    else None

abbrev pub symmetry_of : List ℕ → Option Symmetry
symmetry_of word =
    if spells (codes "general") word then Some General
    else if spells (codes "symmetric") word then Some Symmetric
    else if spells (codes "skew-symmetric") word then Some SkewSymmetric
    else None

-- The profile: each kind with each symmetry, but for pattern with skew-symmetric.
abbrev pub profile_form : Option Kind → Option Symmetry → Option Form
profile_form None symmetry = None
profile_form (Some k) None = None
profile_form (Some kind.Pattern) (Some SkewSymmetric) = None
profile_form (Some k) (Some s) = Some (record { kind = k; symmetry = s })

-- The first five words, if there are as many.
abbrev pub five_of : List (List ℕ) → Option (List ℕ × List ℕ × List ℕ × List ℕ × List ℕ)
five_of (a ∷ b ∷ c ∷ d ∷ e ∷ more) = Some (a, b, c, d, e)
five_of _ = None

-- The banner: "%%MatrixMarket" and then object, format, field and symmetry; further words are
-- ignored.
--   reason 1 if the words are too few or the first is another, then 2 if the profile doesn't
--   accept the four "%%MatrixMarket MATRIX Coordinate pattern general" is a pattern without
--   symmetry; with "real" it is unsupported.
abbrev pub banner_form : List ℕ × List ℕ × List ℕ × List ℕ × List ℕ → Result Form Reason
banner_form five =
    if not (bytes_eq five.0 (codes "%%MatrixMarket")) then Err reason.Banner
    else if spells (codes "matrix") five.1 && spells (codes "coordinate") five.2
    then ok_or (profile_form (kind_of five.3) (symmetry_of five.4)) reason.Unsupported
    else Err reason.Unsupported

abbrev pub form_of : List (List ℕ) → Result Form Reason
form_of words = ok_or (five_of words) reason.Banner >>= banner_form

-- ---- The size line

-- The size of an integer that isn't negative.
abbrev pub natural_of : Option Integer → Option ℕ
natural_of None = None
natural_of (Some z) = if is_natural z then Some z.size else None

abbrev pub is_general : Symmetry → Bool
is_general General = true
is_general _ = false

-- Reason 4, and then 12.
abbrev pub within_limits : Form → Sizes → Result Sizes Reason
within_limits form sizes =
    if nat_lt 16_384 sizes.rows || nat_lt 16_384 sizes.cols || nat_lt 262_144 sizes.entries then Err reason.TooLarge
    else if not (is_general form.symmetry) && not (sizes.rows == sizes.cols) then Err reason.NotSquare
    else Ok sizes

-- Sizes within the limits.
-- short: at most 262,144 entry lines
pub record AreLimited (sizes : Sizes) : Type 0 where
  pub sides : AreSides sizes.rows sizes.cols
  pub short : sizes.entries ≤ 262_144

-- The sizes: three integer words that aren't negative, for rows, columns and entries; `read` reads
-- an integer word.
--   reason 3 if a word is missing, over, or no such integer, then the limits
--   "3 3 4" is 3 by 3 with 4 entries; "-1 1 0" is a bad size line; "16385 1 0" is too large.
unfoldable pub sizes_by : (List ℕ → Option Integer) → Form → List (List ℕ) → Result Sizes Reason
sizes_by read form words = do
  three ← ok_or (three_of words) reason.SizeLine
  rows ← ok_or (natural_of (read three.0)) reason.SizeLine
  cols ← ok_or (natural_of (read three.1)) reason.SizeLine
  entries ← ok_or (natural_of (read three.2)) reason.SizeLine
  within_limits form (record { rows = rows; cols = cols; entries = entries })

-- ---- Entry lines

-- The words for row, column and value. A pattern line has two words, and its value is 1.
abbrev pub fields_of : Kind → List (List ℕ) → Option (List ℕ × List ℕ × List ℕ)
fields_of kind.Integer words = three_of words
fields_of kind.Pattern words = option_map (λ two. (two.0, two.1, codes "1")) (two_of words)

abbrev pub is_skew : Symmetry → Bool
is_skew SkewSymmetric = true
is_skew _ = false

-- An index counts from 1 to its size.
abbrev pub is_index : ℕ → Integer → Bool
is_index size z = not z.minus && nat_le 1 z.size && nat_le z.size size

-- Reason 6, and then 13. Places count from 0.
abbrev pub place_of : Form → Sizes → Integer → Integer → Result (ℕ × ℕ) Reason
place_of form sizes i j =
    if not (is_index sizes.rows i && is_index sizes.cols j) then Err reason.OutOfRange
    else if is_skew form.symmetry && i.size == j.size then Err reason.Diagonal
    else Ok (i.size - 1, j.size - 1)

-- Reason 7.
abbrev pub value_within : Option Integer → Result ℤ Reason
value_within None = Err reason.Value
value_within (Some z) = if nat_lt 1_000_000_000_000 z.size then Err reason.Value else Ok (value_of z)

-- An entry line by itself; `read` reads an integer word.
--   reason 5 if words are missing, over, or an index is no integer, then 6, 13 and 7 with
--   integer "2 1 -7" is -7 at row 1 and column 0, counted from 0; with pattern "2 1" is 1 there.
unfoldable pub cell_by : (List ℕ → Option Integer) → Form → Sizes → List (List ℕ) → Result Triple Reason
cell_by read form sizes words = do
  three ← ok_or (fields_of form.kind words) reason.EntryLine
  i ← ok_or (read three.0) reason.EntryLine
  j ← ok_or (read three.1) reason.EntryLine
  place ← place_of form sizes i j
  v ← value_within (read three.2)
  Ok (record { i = place.0; j = place.1; v = v })

-- Whether an entry is at row i and column j.
abbrev pub has_place : ℕ → ℕ → List Triple → Bool
has_place i j entries = list_any (λ t. t.i == i && t.j == j) entries

-- An entry line after others, whose entries and mirrors are `done`: last comes reason 8.
unfoldable pub entry_of : Form → Sizes → List Triple → List (List ℕ) → Result Triple Reason
entry_of form sizes done words = do
  t ← cell_by integer_of form sizes words
  if has_place t.i t.j done then Err reason.Duplicate else Ok t

-- The entries that an entry line stands for: itself, and its mirror if it has one.
--   symmetric: (j,i,v) off the diagonal; skew-symmetric: (j,i,-v)
--   symmetric "2 1 7" stands for 7 at (1,0) and at (0,1), "1 1 5" for 5 at (0,0) alone.
abbrev pub stands_for : Symmetry → Triple → List Triple
stands_for General t = t ∷ []
stands_for Symmetric t = if t.i == t.j then t ∷ [] else t ∷ record { i = t.j; j = t.i; v = t.v } ∷ []
stands_for SkewSymmetric t = t ∷ record { i = t.j; j = t.i; v = neg_ℤ t.v } ∷ []

-- The entries of entry lines, in their order, after those that are done. The first bad line
-- decides.
abbrev pub entries_in : Form → Sizes → List Triple → List Line → Result (List Triple) BadLine
entries_in form sizes done [] = Ok done
entries_in form sizes done (line ∷ rest) =
    in_line line.number (entry_of form sizes done line.words)
    >>= λ t. entries_in form sizes (done ++ stands_for form.symmetry t) rest

-- Reason 10 at a line that is over.
abbrev pub none_over : List Line → List Triple → Result (List Triple) BadLine
none_over [] entries = Ok entries
none_over (line ∷ rest) entries = Err (bad line.number reason.TooMany)

-- Reason 9 at the end line if lines are missing.
abbrev pub as_many : ℕ → ℕ → List Line → List Triple → Result (List Triple) BadLine
as_many end count lines entries =
    if nat_lt (length lines) count then Err (bad end reason.TooFew) else none_over (drop count lines) entries

-- The entries of all entry lines, of which `count` are still to come: those are read, and then no
-- line may be over.
unfoldable pub entries_of : Form → Sizes → ℕ → ℕ → List Triple → List Line → Result (List Triple) BadLine
entries_of form sizes end count done lines =
    entries_in form sizes done (take count lines) >>= as_many end count lines

-- ---- The whole text

-- What follows line 1: the size line is the first line that counts, the entry lines are the others.
unfoldable pub body_of : Form → ℕ → List Line → Result Sparse BadLine
body_of form end [] = Err (bad end reason.SizeLine)
body_of form end (line ∷ rest) = do
  sizes ← in_line line.number (sizes_by integer_of form line.words)
  entries ← entries_of form sizes end sizes.entries [] rest
  Ok (record { rows = sizes.rows; cols = sizes.cols; kind = form.kind; entries = entries })

-- The words of line 1, and none if there is no line.
abbrev pub first_words : List (List ℕ) → List (List ℕ)
first_words [] = []
first_words (line ∷ rest) = words_of line

-- The lines of a text, read in order; the end line is one more than there are.
unfoldable pub lines_read : List (List ℕ) → Result Sparse BadLine
lines_read lines = do
  form ← in_line 1 (form_of (first_words lines))
  body_of form (length lines + 1) (lines_from 2 (drop 1 lines))

-- The line of byte number n + 1: one more than the LF bytes before it.
abbrev pub line_after : ℕ → List ℕ → ℕ
line_after n text = 1 + count_by (λ b. b == 10) (take n text)

-- The matrix of a text, or its first bad line.
--   reason 11 if the text has more than 16,777,216 bytes, else what its lines are read as
--   "%%MatrixMarket matrix coordinate pattern general/2 2 1/2 1/" is 2 by 2 with 1 at row 1 and
--   column 0.
unfoldable pub matrix_of : List ℕ → Result Sparse BadLine
matrix_of text =
    if nat_lt 16_777_216 (length text) then Err (bad (line_after 16_777_216 text) reason.TooLong)
    else lines_read (lines_of text)
