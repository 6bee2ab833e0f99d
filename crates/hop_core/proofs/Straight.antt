-- On one hop an entry goes straight to its destination, with a tag of zeros.
use Rattle.std.proofs.Common.{◌≡◌, ℕ, ◌<◌, ◌%◌, List, [], ◌∷◌, length, arith}
use Rattle.std.proofs.Math.Nat.{mod-eq_of_lt}
use Rattle.route_tensor.specs.declared.routes.Onward.{Onward}
use Rattle.route_tensor.specs.Grid.{ranks, coord}
use Rattle.route_tensor.specs.Tag.{tag_digit}
use Rattle.route_tensor.specs.Routes.{first_step}

pub straight : (dims : List ℕ) (r d : ℕ) (step : Onward) → length dims ≡ 1 → d < ranks dims → step ≡ record { out = d; tag = record { d1 = 0; d2 = 0; d3 = 0 } } → step ≡ first_step dims r d
unfolding ranks coord tag_digit
straight [] r d step one h is = absurd (omega (arith, one))
straight (n ∷ []) r d step one h is = let whole : d % n ≡ d = mod-eq_of_lt (omega (arith, h)) in cc
straight (n ∷ m ∷ ns) r d step one h is = absurd (omega (arith, one))
