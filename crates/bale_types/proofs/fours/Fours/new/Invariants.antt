use Rattle.std.proofs.Common.{◌≡◌, length}
use Rattle.bale_types.specs.Digits.{AreDigits}
use Rattle.bale_types.proofs.fours.Fours.new.Given as goal

-- those so far
abbrev pub invariant-loop-n : goal.invariant-loop-n
invariant-loop-n l = record {
  len : length l.digits ≡ 10000;
  are : AreDigits l.n l.digits;
}
