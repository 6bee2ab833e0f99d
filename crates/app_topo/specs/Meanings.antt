-- What topo's answer means.
use Rattle.std.specs.Prelude.{◌≡◌, ◌⊎◌, ℕ, List, length, codes}
use Rattle.mtx_text.specs.Sparse.{Sparse}
use Rattle.app_topo.specs.Triangular.{IsValid}
use Rattle.app_topo.specs.Levels.{Claim, row_position, col_position}
use Rattle.app_topo.specs.TopoLines.{topo_lines}

-- The bytes are a line for each position, with its row and its column, and the positions of rows
-- and columns make the matrix upper triangular with a full diagonal.
-- of the entries (0,0), (0,1), (1,1): "1 1 1/2 2 2/", with / for LF
pub record TellsOrder (m : Sparse) (bytes : List ℕ) : Type 0 where
  pub order : List Claim
  pub lines : bytes ≡ topo_lines order
  pub size : length order ≡ m.rows
  pub valid : IsValid m.rows m.entries (row_position order) (col_position order)

-- The bytes are "not triangular/", and no numbers of rows and columns make the matrix upper
-- triangular with a full diagonal.
-- of the entries (0,0), (0,1), (1,0), (1,1)
pub record TellsNone (m : Sparse) (bytes : List ℕ) : Type 0 where
  pub line : bytes ≡ codes "not triangular\n"
  pub none : (p q : ℕ → ℕ) → ¬ IsValid m.rows m.entries p q

-- The matrix is square; the status is 0 and the bytes tell an order, or it is 1 and there is none.
-- TopoMeans m 0 bytes = the positions that are printed are valid; TopoMeans m 1 bytes = no
-- positions are of the entries (0,0), (0,1), (1,1) 0, and of (0,0), (0,1), (1,0), (1,1) 1
pub record TopoMeans (m : Sparse) (status : ℕ) (bytes : List ℕ) : Type 0 where
  pub square : m.rows ≡ m.cols
  pub found : status ≡ 0 → TellsOrder m bytes
  pub none : status ≡ 1 → TellsNone m bytes
  pub one_of_them : (status ≡ 0) ⊎ (status ≡ 1)
