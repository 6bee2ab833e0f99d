-- Walks over the entries of a matrix, and the least weight of a walk.
use Rattle.std.specs.Prelude.{ℕ, pos, int_lt, Bool, not, ◌≡◌, ◌≤◌, ◌<◌, List, [], ◌∷◌, Option, Some, Contains, nat_abs}
use Rattle.std.specs.List.{sum_by, list_all}
use Rattle.bale_items.specs.declared.triple.Triple.{Triple}
use Rattle.mtx_text.specs.Sparse.{Sparse}

-- A walk from vertex s to vertex t: a list of entries that join up, each an edge from its row to
-- its column.
-- IsWalk entries s t (e1, .., ek): e1 begins at s, each begins if the one before it ends, and ek
-- ends at t Over (0,1,3), (1,2,2) the list (0,1,3), (1,2,2) is a walk from 0 to 2, and the empty
-- list is one from 1 to 1.
abbrev pub IsWalk : List Triple → ℕ → ℕ → List Triple → Type 0
IsWalk entries s t [] = s ≡ t
IsWalk entries s t (e ∷ walk) = Contains entries e × (e.i ≡ s) × IsWalk entries e.j t walk

-- The rows of a square matrix are vertices, and one of them is the source.
pub record IsSource (source : ℕ) (m : Sparse) : Type 0 where
  pub square : m.cols ≡ m.rows
  pub within : source < m.rows

-- No value is negative, so each is the weight of an edge.
-- no_negative (e1, .., ek) = e1.v is at least 0, and .., and ek.v is at least 0
-- of (0,1,3), (1,2,0) true, and of (0,1,3), (1,2,-1) false
abbrev pub no_negative : List Triple → Bool
no_negative entries = list_all (λ e. not (int_lt e.v (pos 0))) entries

-- The weight of a walk: the sum of its values, of which none is negative.
-- weight_of (e1, .., ek) = e1.v + .. + ek.v
-- The walk (0,1,3), (1,2,2) weighs 5.
abbrev pub weight_of : List Triple → ℕ
weight_of walk = sum_by (λ e. nat_abs e.v) walk

-- There is a weight, and it is at most n.
abbrev pub AtMost : Option ℕ → ℕ → Type 0
AtMost found n = (m : ℕ) × (found ≡ Some m) × (m ≤ n)

-- The least weight of a walk from s to t, or None if there is no walk.
-- found = Some of the least weight_of w over the walks w from s to t
-- Over (0,1,3), (1,2,2), (0,2,7) the least weight from 0 to 2 is 5, and from 2 to 0 there is none.
pub record IsLeast (entries : List Triple) (s t : ℕ) (found : Option ℕ) : Type 0 where
  -- it is the weight of a walk
  pub walked : (m : ℕ) → found ≡ Some m → (walk : List Triple) × IsWalk entries s t walk × (weight_of walk ≡ m)
  -- and no walk weighs less
  pub least : (walk : List Triple) → IsWalk entries s t walk → AtMost found (weight_of walk)

-- The least weights from a source to each vertex of a square matrix.
abbrev pub AreLeast : Sparse → ℕ → (ℕ → Option ℕ) → Type 0
AreLeast m source weights = (v : ℕ) → v < m.rows → IsLeast m.entries source v (weights v)
