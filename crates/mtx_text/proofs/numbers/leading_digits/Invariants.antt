use Rattle.std.proofs.Common.{◌≡◌, min, true, take}
use Rattle.std.specs.List.{list_all}
use Rattle.std.specs.Char.{is_ascii_digit}
use Rattle.std.specs.Str.Parse.{digits_value}
use Rattle.mtx_text.proofs.numbers.leading_digits.Given as goal

abbrev pub invariant-loop-i : goal.invariant-loop-i
invariant-loop-i l =
    (l.size ≡ min (digits_value 10 (take l.i l.line)) 1_000_000_000_000_000_000)
    × (list_all is_ascii_digit (take l.i l.line) ≡ true)
