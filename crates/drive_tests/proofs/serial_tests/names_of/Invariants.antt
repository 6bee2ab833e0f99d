use Rattle.std.proofs.Common.{◌≡◌, ◌<◌, All, length}
use Rattle.drive_tests.proofs.serial_tests.names_of.Given as goal

abbrev pub invariant-loop-i : goal.invariant-loop-i
invariant-loop-i l = All (λ j. j < 3) l.names.items × (l.ranks ≡ 1 → length l.names.items ≡ l.i)
