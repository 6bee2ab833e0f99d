-- The answer of sssp as text: for each vertex, the least weight of a walk to it.
use Rattle.std.specs.Prelude.{ℕ, zero, suc, List, [], ◌∷◌, ◌++◌, ◌+◌, ◌≡◌, Option, None, Some, decimal}
use Rattle.mtx_text.specs.Sparse.{Sparse}
use Rattle.least_walks.specs.Walks.{AreLeast}

-- A weight, or `-` if there is no walk.
abbrev pub weight_text : Option ℕ → List ℕ
weight_text None = 45 ∷ []
weight_text (Some n) = decimal n

-- The line of a vertex: its number from 1, one blank, and its weight.
-- vertex_line 2 (Some 5) = "3 5\n", vertex_line 0 None = "1 -\n"
abbrev pub vertex_line : ℕ → Option ℕ → List ℕ
vertex_line v found = decimal (v + 1) ++ 32 ∷ [] ++ weight_text found ++ 10 ∷ []

-- The lines of the vertices below a number, in order.
-- sssp_lines weights n = the line of vertex 0, .., the line of vertex n - 1
-- With the weights 0, none, 5: "1 0\n2 -\n3 5\n"
abbrev pub sssp_lines : (ℕ → Option ℕ) → ℕ → List ℕ
sssp_lines weights zero = []
sssp_lines weights (suc v) = sssp_lines weights v ++ vertex_line v (weights v)

-- A text is the answer for a matrix and a source: the lines of the least weights.
pub record IsSsspAnswer (m : Sparse) (source : ℕ) (text : List ℕ) : Type 0 where
  pub weights : ℕ → Option ℕ
  pub least : AreLeast m source weights
  pub lines : text ≡ sssp_lines weights m.rows
