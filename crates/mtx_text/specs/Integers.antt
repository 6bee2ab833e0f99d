-- Integer words: a sign or none, and decimal digits, as many as there are.
use Rattle.std.specs.Prelude.{ℕ, ◌==◌, ◌||◌, not, Bool, true, false, List, [], ◌∷◌, ℤ, pos, neg_ℤ, Option, Some, None}
use Rattle.std.specs.Prelude.{if◌then◌else◌}
use Rattle.std.specs.List.{list_all}
use Rattle.std.specs.Option.{option_map}
use Rattle.std.specs.Char.{is_ascii_digit}
use Rattle.std.specs.Str.Parse.{digits_value}
use Rattle.mtx_text.specs.declared.integer.Integer.{Integer}

-- The number that a run of one or more decimal digits spells.
--   digits_of "007" = Some 7
--   nothing and "1.0" spell none.
abbrev pub digits_of : List ℕ → Option ℕ
digits_of [] = None
digits_of (b ∷ bs) = if list_all is_ascii_digit (b ∷ bs) then Some (digits_value 10 (b ∷ bs)) else None

abbrev pub with_sign : Bool → ℕ → Integer
with_sign minus size = record { minus = minus; size = size }

-- An integer word, read as its sign and its size, of any length.
--   integer_of ("-" ++ digits) = minus and the digits' number; "+" or no sign = plus and that
--   number "-007" is minus 7, "+0" is plus 0; "", "-", "+-1" and "1.0" are no integer words.
abbrev pub integer_of : List ℕ → Option Integer
integer_of [] = None
integer_of (b ∷ bs) =
    if b == 43 then option_map (with_sign false) (digits_of bs)
    else if b == 45 then option_map (with_sign true) (digits_of bs)
    else option_map (with_sign false) (digits_of (b ∷ bs))

-- Not negative: "-0" is 0.
abbrev pub is_natural : Integer → Bool
is_natural z = not z.minus || z.size == 0

-- The integer itself.
abbrev pub value_of : Integer → ℤ
value_of z = if z.minus then neg_ℤ (pos z.size) else pos z.size
