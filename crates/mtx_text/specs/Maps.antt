-- Triples as a map from places to values.
use Rattle.std.specs.Prelude.{◌≡◌, ℕ, ◌==◌, ◌&&◌, Bool, List, [], ◌∷◌, ℤ, Option, Some, None, Contains, slice_get}
use Rattle.std.specs.Prelude.{if◌then◌else◌}
use Rattle.bale_items.specs.declared.triple.Triple.{Triple}
use Rattle.mtx_text.specs.Sparse.{Sparse}

-- The triple is at row i and column j.
abbrev pub is_at : ℕ → ℕ → Triple → Bool
is_at i j t = t.i == i && t.j == j

-- The value at row i and column j of a list of triples, if one is there.
-- value_at ts i j = the v of the triple (i,j,v) of ts, and None if there is none in (0,2,-7),
-- (1,0,4) the value at row 1 and column 0 is 4, and there is none at row 1 and column 1.
abbrev pub value_at : List Triple → ℕ → ℕ → Option ℤ
value_at [] i j = None
value_at (t ∷ ts) i j = if is_at i j t then Some t.v else value_at ts i j

-- A matrix as a finite map: the value at row i and column j, if an entry is there.
abbrev pub at : Sparse → ℕ → ℕ → Option ℤ
at m i j = value_at m.entries i j

-- The list of triples and the map say the same: each triple is in the map, and what the map has is
-- a triple.
pub record Agree (m : Sparse) : Type 0 where
  pub listed : (e : ℕ) (t : Triple) → slice_get m.entries e ≡ Some t → at m t.i t.j ≡ Some t.v
  pub mapped : (i j : ℕ) (v : ℤ) → at m i j ≡ Some v → Contains m.entries (record { i = i; j = j; v = v })
