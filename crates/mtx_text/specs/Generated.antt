-- Matrices generated from a seed: an upper triangular band with a full diagonal, hidden under two
-- permutations.
use Rattle.std.specs.Prelude.{ℕ, ◌≤◌, ◌*◌, ◌+◌, ◌-◌, ◌%◌, List, [], ◌∷◌, map, take, pos, slice_index}
use Rattle.std.specs.List.{range_with_len, flat_map}
use Rattle.bale_items.specs.declared.triple.Triple.{Triple}
use Rattle.mtx_text.specs.declared.kind.Kind.TheVariants.{Integer}
use Rattle.mtx_text.specs.Sparse.{Sparse}
use Rattle.mtx_text.specs.Cells.{sparse}
use Rattle.mtx_text.specs.Seeds.{step, word, seeded, permutation_of}

-- The positions at distance d above the diagonal: (i, i + d) for i from 0 to n - d - 1.
abbrev pub diagonal : ℕ → ℕ → List (ℕ × ℕ)
diagonal n d = map (λ i. (i, i + d)) (range_with_len 0 (n - d))

-- The first m positions by distance from the diagonal, from 0 to n - 1.
-- of 2 rows the first three are (0,0), (1,1), (0,1)
abbrev pub positions : ℕ → ℕ → List (ℕ × ℕ)
positions n m = take m (flat_map (diagonal n) (range_with_len 0 n))

-- The entries at positions: for each a word is drawn, and its value is 1 more than the word mod
-- 1000.
-- hidden p q state positions = (p(i), q(j), 1 + w mod 1000) for each (i,j) and its word w
abbrev pub hidden_triangle : List ℕ → List ℕ → ℕ → List (ℕ × ℕ) → List Triple
hidden_triangle p q state [] = []
hidden_triangle p q state (x ∷ rest) =
    record { i = slice_index p x.0; j = slice_index q x.1; v = pos (1 + word state % 1000) }
    ∷ hidden_triangle p q (step state) rest

-- The matrix of n rows and columns and m entries: rows' permutation, columns' permutation, values.
-- 2, 3 and seed 42 stand for 825 at (0,0), 956 at (1,1) and 956 at (0,1).
abbrev pub hidden_by : List ℕ × ℕ → (ℕ → List ℕ × ℕ) → List (ℕ × ℕ) → List Triple
hidden_by rows cols xs = hidden_triangle rows.0 (cols rows.1).0 (cols rows.1).1 xs

-- A band of so many rows and entries can be hidden: within the limits, and no more than there are
-- positions.
pub record CanHide (n m : ℕ) : Type 0 where
  pub tall : n ≤ 16_384
  pub few : m ≤ 262_144
  pub room : 2 * m ≤ n * (n + 1)

abbrev pub generated_matrix : ℕ → ℕ → ℕ → Sparse
generated_matrix n m seed = sparse n n Integer (hidden_by (permutation_of n (seeded seed)) (permutation_of n) (positions n m))
