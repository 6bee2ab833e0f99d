-- What turns do to ranks, for any type of rank.
use Rattle.std.specs.Prelude.{◌≡◌, ℕ, ◌+◌, Bool, true, false, List, length, slice_get, Some}
use Rattle.std.specs.List.{All}

-- The laws of a relation `ran` between a rank before some turns and the rank after them.
-- none: it holds if no turn was made. on: it is transitive.
pub record RanLaws {S : Type 0} (ran : S → S → Type 0) : Type 0 where
  pub none : (x : S) → ran x x
  pub on : (x y z : S) → ran x y → ran y z → ran x z

-- It holds of each rank of a list, xs before the turns and ys after them.
pub record AllRan {S : Type 0} (ran : S → S → Type 0) (xs ys : List S) : Type 0 where
  pub all : length ys ≡ length xs
  pub each : (r : ℕ) (x y : S) → slice_get xs r ≡ Some x → slice_get ys r ≡ Some y → ran x y

-- A rank's part in a sweep, from x to y: one turn if its run wasn't over, otherwise none.
pub record MakesOneTurn {S : Type 0} (over : S → Bool) (turns : S → ℕ) (x y : S) : Type 0 where
  pub going : over x ≡ false → turns y ≡ turns x + 1
  pub ended : over x ≡ true → y ≡ x

-- It holds of each rank, and the run of each is over.
pub record AllEnded {S : Type 0} (turned : S → S → Type 0) (is_over : S → Bool) (xs ys : List S) : Type 0 where
  pub ran : AllRan turned xs ys
  pub over : All (λ y. is_over y ≡ true) ys

-- A rank that is being turned, and what it was before its first turn.
pub record TurnedState (S : Type 0) : Type 0 where
  pub first : S
  pub now : S
