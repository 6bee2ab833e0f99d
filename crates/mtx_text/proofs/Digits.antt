-- A number read digit by digit, up to a cap.
use Rattle.std.proofs.Common.{◌≡◌, ℕ, ◌+◌, ◌-◌, ◌*◌, ◌<◌, min, true, List, length, get_or, take, arith}
use Rattle.std.proofs.lemmas.Bool.{and_parts, leb-true}
use Rattle.std.proofs.lemmas.Int.Digits.{digits_value_more}
use Rattle.std.proofs.lemmas.List.Folds.{list_all_more}
use Rattle.std.proofs.lemmas.Str.{digit_value_digit}
use Rattle.std.specs.List.{list_all}
use Rattle.std.specs.Char.{is_ascii_digit, digit_value}
use Rattle.std.specs.Str.Parse.{digits_value}

pub digit_is : (b : ℕ) → is_ascii_digit b ≡ true → digit_value b + 48 ≡ b
digit_is b h =
    let parts = and_parts (Rattle.std.specs.Prelude.nat_le 48 b) (Rattle.std.specs.Prelude.nat_le b 57) h in
    digit_value_digit b (leb-true 48 b parts.0, leb-true b 57 parts.1)

pub digits_step : (bs : List ℕ) (i cap size next : ℕ) → i < length bs → is_ascii_digit (get_or bs i 0) ≡ true
    → size ≡ min (digits_value 10 (take i bs)) cap → next ≡ min (size * 10 + (get_or bs i 0 - 48)) cap
    → next ≡ min (digits_value 10 (take (i + 1) bs)) cap
digits_step bs i cap size next h digit was is =
    let more : digits_value 10 (take (i + 1) bs) ≡ digits_value 10 (take i bs) * 10 + digit_value (get_or bs i 0) = digits_value_more 10 bs i h in
    let value : digit_value (get_or bs i 0) + 48 ≡ get_or bs i 0 = digit_is (get_or bs i 0) digit in
    omega arith

pub all_step : (bs : List ℕ) (i : ℕ) → i < length bs → is_ascii_digit (get_or bs i 0) ≡ true
    → list_all is_ascii_digit (take i bs) ≡ true → list_all is_ascii_digit (take (i + 1) bs) ≡ true
all_step bs i h digit before = rw (list_all_more is_ascii_digit bs i 0 h, before, digit)
