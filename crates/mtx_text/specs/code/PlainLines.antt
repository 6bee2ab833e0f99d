-- The line that a text begins with, and its words, by how many bytes they have.
use Rattle.std.specs.Prelude.{ℕ, ◌≡◌, ◌+◌, ◌-◌, ◌^◌, ◌≤◌, ◌<◌, true, false, List, [], ◌∷◌, length, take, drop, get_or}
use Rattle.std.specs.Prelude.{min, Some}
use Rattle.std.specs.List.{list_all}
use Rattle.std.specs.Option.{option_map}
use Rattle.std.specs.Char.{is_ascii_digit}
use Rattle.std.specs.Str.Parse.{digits_value}
use Rattle.mtx_text.specs.declared.integer.Integer.{Integer}
use Rattle.std.specs.Simd.Lanes.{mask_l}
use Rattle.mtx_text.specs.declared.plain.Digits.{Digits}
use Rattle.mtx_text.specs.declared.plain.Two.{Two}
use Rattle.mtx_text.specs.code.DigitLanes.{bits_of}
use Rattle.mtx_text.specs.declared.lines.Kept.{Kept}
use Rattle.mtx_text.specs.declared.plain.Plain.{Plain}
use Rattle.mtx_text.specs.declared.kind.Kind.{Kind}
use Rattle.mtx_text.specs.Lines.{lines_of, lines_from, words_of, is_skipped}
use Rattle.mtx_text.specs.Grammar.{fields_of}
use Rattle.mtx_text.specs.Integers.{integer_of}
use Rattle.mtx_text.specs.code.Capped.{capped, read_three}

-- The text's first line is its first `len` bytes, and the others are those of what follows
-- its first `next` bytes.
--   of "1 2/3/" with 3 and 4, or with CR before its first LF with 3 and 5: the line "1 2", and then
--   the lines of "3/"
pub record LineAt (text : List ℕ) (len next : ℕ) : Type 0 where
  pub within : len < next
  pub room : next ≤ length text
  pub lines : lines_of text ≡ take len text ∷ lines_of (drop next text)

-- That line counts.
pub record CountsAt (text : List ℕ) (len next : ℕ) : Type 0 where
  pub line : LineAt text len next
  pub counts : is_skipped (words_of (take len text)) ≡ false

-- The first line that counts of a text whose first line has a number, as it was cut off, with what
-- follows it.
-- kept: it is the first of the lines that count, and those behind it are the others
-- left, room, shorter: as many lines, and at most as many bytes, are left as stood behind it
--   of "%/3 3/1/" from line 2: line 3, "3 3", and "1/"
pub record IsFirstKept (text : List ℕ) (number : ℕ) (k : Kept) : Type 0 where
  pub kept : lines_from number (lines_of text) ≡ record { number = k.number; words = words_of k.line.now }
      ∷ lines_from (k.number + 1) (lines_of k.rest.now)
  pub left : k.number + 1 + length (lines_of k.rest.now) ≡ number + length (lines_of text)
  pub room : k.number + 1 + length k.rest.now ≤ number + length text
  pub shorter : length k.rest.now < length text

-- No line counts of a text whose first line has a number.
-- is_end: `end` is the number behind its last line
pub record NoneCounts (text : List ℕ) (number end : ℕ) : Type 0 where
  pub none : lines_from number (lines_of text) ≡ []
  pub is_end : end ≡ number + length (lines_of text)

-- The text begins with `len` digits, one or more, whose number is `size`, and the byte `end`
-- follows.
--   "12 3" with 2 digits, the number 12 and a space as the end
pub record DigitsTo (end : ℕ) (text : List ℕ) (len size : ℕ) : Type 0 where
  pub full : 0 < len
  pub within : len < length text
  pub digits : list_all is_ascii_digit (take len text) ≡ true
  pub value : size ≡ min (digits_value 10 (take len text)) 1_000_000_000_000_000_000
  pub ends : get_or text len 0 ≡ end

-- The text's first line is `len` digits, one or more, whose number is `size`, and the next begins
-- at the byte `next`.
--   of "12/3/" with 2, 3 and 12
pub record DigitsEnd (text : List ℕ) (len next size : ℕ) : Type 0 where
  pub full : 0 < len
  pub within : len < length text
  pub digits : list_all is_ascii_digit (take len text) ≡ true
  pub value : size ≡ min (digits_value 10 (take len text)) 1_000_000_000_000_000_000
  pub line : LineAt text len next

-- The text's first line is one word of `len` bytes, the integer `z`, and the next begins at the
-- byte `next`.
--   "-7/1 2/" with 2, 3 and the integer -7
pub record LastAt (text : List ℕ) (len next : ℕ) (z : Integer) : Type 0 where
  pub line : LineAt text len next
  pub word : words_of (take len text) ≡ take len text ∷ []
  pub value : Some z ≡ option_map capped (integer_of (take len text))

-- The text begins with digits, none or more, and another byte follows; a number of many digits
-- isn't read.
--   of "12 7/" two digits, and 12
pub record LeadingDigits (text : List ℕ) (d : Digits) : Type 0 where
  pub within : d.len < length text
  pub digits : list_all is_ascii_digit (take d.len text) ≡ true
  pub value : d.len ≤ 18 → d.size ≡ min (digits_value 10 (take d.len text)) 1_000_000_000_000_000_000

-- The line begins with `len` digits, none or more, and `size` is their number, or the cap if
-- that is less.
pub record CappedTo (line : List ℕ) (len size : ℕ) : Type 0 where
  pub within : len ≤ length line
  pub digits : list_all is_ascii_digit (take len line) ≡ true
  pub value : size ≡ min (digits_value 10 (take len line)) 1_000_000_000_000_000_000

-- A text of at least eight bytes begins with `len` digits, one to five.
pub record FewDigits (text : List ℕ) (len : ℕ) : Type 0 where
  pub room : 8 ≤ length text
  pub full : 0 < len
  pub few : len ≤ 5
  pub digits : list_all is_ascii_digit (take len text) ≡ true

-- A text's first `len` bytes are digits, and `size` is their number, if they are at most 18.
--   of "12 7/" with 2 and 12
pub record NumberTo (text : List ℕ) (len size : ℕ) : Type 0 where
  pub digits : list_all is_ascii_digit (take len text) ≡ true
  pub value : len ≤ 18 → size ≡ min (digits_value 10 (take len text)) 1_000_000_000_000_000_000
  pub below : len ≤ 18 → size < 10 ^ len

-- The same of digits that were read, with more bytes behind them.
abbrev pub IsReadDigits : List ℕ → Digits → Type 0
IsReadDigits text d = NumberTo text d.len d.size

-- A text has another digit or another byte to be looked at behind the few digits that were read.
pub record MayRead (text : List ℕ) (d : Digits) : Type 0 where
  pub within : d.len < length text
  pub few : d.len ≤ 5
  pub read : IsReadDigits text d

-- One digit more of a text was read.
pub record ReadsOne (text : List ℕ) (old new : Digits) : Type 0 where
  pub more : new.len ≡ old.len + 1
  pub read : IsReadDigits text new

-- Two runs of few digits, each with another byte behind it, precede `rest`; `others` are
-- the bits of its first bytes that are no digits, as far as sixteen bytes of the text go.
--   of "1 22 7/" the rest is "7/", whose second byte is no digit
pub record IsFew (two : Two) (rest : List ℕ) : Type 0 where
  pub few : two.row.len + two.column.len ≤ 10
  pub room : 22 ≤ length rest + (two.row.len + two.column.len)
  pub others : two.others ≡ mask_l (bits_of (14 - (two.row.len + two.column.len)) rest)

-- A text of at least 24 bytes begins with two runs of at most five digits, a space between them,
-- and `others` are the bits of what follows the byte behind them.
pub record TwoAt (text : List ℕ) (two : Two) : Type 0 where
  pub within : 24 ≤ length text
  pub few : (two.row.len ≤ 5) × (two.column.len ≤ 5)
  pub row : DigitsTo 32 text two.row.len two.row.size
  pub some : 0 < two.column.len
  pub column : IsReadDigits (drop (two.row.len + 1) text) two.column
  pub others : two.others
      ≡ mask_l (bits_of (14 - (two.row.len + two.column.len)) (drop (two.column.len + 1) (drop (two.row.len + 1) text)))

-- A text begins with two runs of few digits, each with a space behind it, and `rest` is what
-- follows.
--   of "1 22 7/" it is "7/"
pub record FrontAt (text : List ℕ) (two : Two) (rest : List ℕ) : Type 0 where
  pub front : IsFew two rest
  pub row : DigitsTo 32 text two.row.len two.row.size
  pub column : DigitsTo 32 (drop (two.row.len + 1) text) two.column.len two.column.size
  pub behind : rest ≡ drop (two.column.len + 1) (drop (two.row.len + 1) text)

-- A text begins with a plain line of a kind of matrix, and these are its numbers.
pub record IsPlain (kind : Kind) (text : List ℕ) (p : Plain) : Type 0 where
  pub at : CountsAt text p.len p.next
  pub fields : Some (p.fields.row, p.fields.column, p.fields.value)
      ≡ option_map read_three (fields_of kind (words_of (take p.len text)))
