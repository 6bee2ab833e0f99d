-- Ordered maps from places to values, as lists of triples in order.
use Rattle.std.specs.Prelude.{◌≡◌, ℕ, ◌==◌, ◌&&◌, ◌||◌, Bool, true, List, [], ◌∷◌, Option, Some, None, nat_lt}
use Rattle.std.specs.Prelude.{if◌then◌else◌}
use Rattle.std.specs.Int.{int_max}
use Rattle.std.specs.List.{AllPairs, fold, flat_map}
use Rattle.bale_items.specs.declared.triple.Triple.{Triple}
use Rattle.mtx_text.specs.declared.kind.Kind.{Kind}
use Rattle.mtx_text.specs.Sparse.{Sparse}

-- The order of places: by row and then column.
abbrev pub comes_before : ℕ → ℕ → ℕ → ℕ → Bool
comes_before i j k l = nat_lt i k || i == k && nat_lt j l

abbrev pub is_before : Triple → Triple → Bool
is_before s t = comes_before s.i s.j t.i t.j

-- Each triple's place comes before those of the triples behind it: so no place comes twice.
abbrev pub InOrder : List Triple → Type 0
InOrder cells = AllPairs (λ s t. is_before s t ≡ true) cells

-- Cells in order, after a value was raised to t's: its place has the greater of the two values, or
-- t's if it had none.
-- raised (i,j,v) cells = cells with max v w at (i,j), if w was there, and else with v (0,1,5),
-- (2,0,3) raised to (2,0,4) has 4 at row 2, raised to (2,0,2) stays, and raised to (1,1,1) has
-- three cells.
abbrev pub with_value_raised : Triple → List Triple → List Triple
with_value_raised t [] = t ∷ []
with_value_raised t (c ∷ cells) =
    if is_before c t then c ∷ with_value_raised t cells
    else if is_before t c then t ∷ c ∷ cells
    else record { i = c.i; j = c.j; v = int_max c.v t.v } ∷ cells

-- Raises one after the other.
abbrev pub raised_all : List Triple → List Triple → List Triple
raised_all cells triples = fold (λ cells t. with_value_raised t cells) cells triples

-- The ordered map of triples in any order, of which those at one place leave the greatest value.
-- gathered of (2,0,3), (0,1,5), (2,0,4) is (0,1,5), (2,0,4).
abbrev pub gathered_cells : List Triple → List Triple
gathered_cells triples = raised_all [] triples

-- The first cell that isn't before row i and column j.
-- in (0,1,5), (2,0,3), from row 0 and column 2 on, that is (2,0,3).
abbrev pub first_from : ℕ → ℕ → List Triple → Option Triple
first_from i j [] = None
first_from i j (c ∷ cells) = if comes_before c.i c.j i j then first_from i j cells else Some c

-- All cells of several maps.
abbrev pub together : List (List Triple) → List Triple
together maps = gathered_cells (flat_map (λ cells. cells) maps)

abbrev pub sparse : ℕ → ℕ → Kind → List Triple → Sparse
sparse rows cols kind entries = record { rows = rows; cols = cols; kind = kind; entries = entries }
