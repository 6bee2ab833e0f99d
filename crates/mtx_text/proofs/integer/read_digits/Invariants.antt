use Rattle.std.proofs.Common.{◌≡◌, min, true, take}
use Rattle.std.specs.List.{list_all}
use Rattle.std.specs.Char.{is_ascii_digit}
use Rattle.std.specs.Str.Parse.{digits_value}
use Rattle.mtx_text.proofs.integer.read_digits.Given as goal

abbrev pub invariant-loop-b : goal.invariant-loop-b
invariant-loop-b l =
    (l.size ≡ min (digits_value 10 (take l.b-index l.digits)) 1_000_000_000_000_000_000)
    × (list_all is_ascii_digit (take l.b-index l.digits) ≡ true)
