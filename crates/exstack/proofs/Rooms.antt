-- The least headroom is at most the capacity.
use Rattle.std.proofs.Common.{◌≤◌, ℕ, List, [], ◌∷◌, arith}
use Rattle.exstack.specs.Links.{StackOut}
use Rattle.exstack.specs.State.{least_headroom}

pub room_small : (cap : ℕ) (outs : List StackOut) → least_headroom cap outs ≤ cap
room_small cap [] = omega arith
room_small cap (o ∷ os) = omega (arith, room_small cap os)
