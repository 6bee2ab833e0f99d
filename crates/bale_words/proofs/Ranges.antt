-- Cutting a long number short changes no answer of a range below the cut, and reading it digit by
-- digit.
use Rattle.std.proofs.Common.{◌≡◌, ℕ, ◌<◌, ◌+◌, ◌-◌, ◌*◌, ◌^◌, ◌∙◌, min, List, Option, Some, None, refl, sym, ap, ap₂, arith, true, length, take, get_or}
use Rattle.std.specs.Prelude.{◌&&◌}
use Rattle.std.specs.List.{list_all}
use Rattle.std.specs.Char.{is_ascii_digit, digit_value}
use Rattle.std.specs.Str.Parse.{digits_value}
use Rattle.std.specs.Option.{option_map, option_and_then}
use Rattle.std.proofs.lemmas.List.Folds.{list_all_more}
use Rattle.std.proofs.lemmas.Int.Digits.{digits_value_more}
use Rattle.std.proofs.lemmas.Bool.Decides.{nat_tests}
use Rattle.bale_words.specs.Numbers.{within}

within_cut : (low high n : ℕ) → high < 2 ^ 64 → within low high (min n 100000000000000000000) ≡ within low high n
within_cut low high n small = grind (arith, nat_tests)

pub within_capped : (low high : ℕ) (o : Option ℕ) → high < 2 ^ 64 → option_and_then (within low high) (option_map (λ n. min n 100000000000000000000) o) ≡ option_and_then (within low high) o
within_capped low high None small = refl
within_capped low high (Some n) small = within_cut low high n small

digit_is : (byte : ℕ) → is_ascii_digit byte ≡ true → digit_value byte ≡ byte - 48
digit_is byte digit = grind (arith, nat_tests)

-- one more digit, cut each time
pub digit_more : (word : List ℕ) (i value byte : ℕ) → i < length word → byte ≡ get_or word i 0 → is_ascii_digit byte ≡ true
    → value ≡ min (digits_value 10 (take i word)) 100000000000000000000
    → min (value * 10 + (byte - 48)) 100000000000000000000 ≡ min (digits_value 10 (take (i + 1) word)) 100000000000000000000
digit_more word i value byte inside at_byte digit so_far =
    let more : digits_value 10 (take (i + 1) word) ≡ digits_value 10 (take i word) * 10 + digit_value (get_or word i 0) = digits_value_more 10 word i inside in
    let this : digit_value (get_or word i 0) ≡ byte - 48 = ap digit_value (sym at_byte) ∙ digit_is byte digit in
    omega arith

pub digits_more : (word : List ℕ) (i byte : ℕ) → i < length word → byte ≡ get_or word i 0 → is_ascii_digit byte ≡ true
    → list_all is_ascii_digit (take i word) ≡ true → list_all is_ascii_digit (take (i + 1) word) ≡ true
digits_more word i byte inside at_byte digit so_far =
    list_all_more is_ascii_digit word i 0 inside ∙ ap₂ (λ a b. a && b) so_far (ap is_ascii_digit (sym at_byte) ∙ digit)
