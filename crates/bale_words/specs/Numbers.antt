-- Numbers on the command line.
use Rattle.std.specs.Prelude.{ℕ, List, [], ◌∷◌, Option, Some, None, map, length, nat_le, nat_lt, ◌&&◌, ◌==◌}
use Rattle.std.specs.Prelude.{if◌then◌else◌}
use Rattle.std.specs.List.{list_all, slice_split}
use Rattle.std.specs.Option.{option_map, option_and_then}
use Rattle.std.specs.Char.{is_ascii_digit}
use Rattle.std.specs.Str.Parse.{digits_value}

-- The number that a text stands for: one or more decimal digits, leading zeros accepted.
-- number_of "007" = Some 7; "", "-1" and "0x4" are none
abbrev pub number_of : List ℕ → Option ℕ
number_of text = if nat_lt 0 (length text) && list_all is_ascii_digit text then Some (digits_value 10 text) else None

-- A number if it lies in a range, both ends included.
-- within 1 64 65 = None
abbrev pub within : ℕ → ℕ → ℕ → Option ℕ
within low high n = if nat_le low n && nat_le n high then Some n else None

-- The number of a text, if it lies in a range.
unfoldable pub number_in : ℕ → ℕ → List ℕ → Option ℕ
number_in low high text = option_and_then (within low high) (number_of text)

-- All of some numbers, if each is there.
abbrev pub all_some : List (Option ℕ) → Option (List ℕ)
all_some [] = Some []
all_some (o ∷ os) = option_and_then (λ n. option_map (λ ns. n ∷ ns) (all_some os)) o

-- The numbers of a text that are parted by a byte, each in a range.
-- Parted by x (120): numbers_in 120 1 64 "2x4" = Some (2, 4); "2x", "x" and "" are none.
unfoldable pub numbers_in : ℕ → ℕ → ℕ → List ℕ → Option (List ℕ)
numbers_in separator low high text = all_some (map (number_in low high) (slice_split (λ b. b == separator) text))

-- The parts of what is left of a text, if anything is.
abbrev pub text_parts : ℕ → Option (List ℕ) → List (List ℕ)
text_parts separator None = []
text_parts separator (Some text) = slice_split (λ b. b == separator) text
