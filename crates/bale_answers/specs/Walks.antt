-- What sssp's answer means.
use Rattle.std.specs.Prelude.{◌≡◌, ◌≤◌, ◌-◌, ℕ, true, List}
use Rattle.mtx_text.specs.Sparse.{Sparse}
use Rattle.least_walks.specs.Lines.{IsSsspAnswer}
use Rattle.least_walks.specs.Walks.{no_negative}

-- The matrix is square and has no negative value, the source, counted from 1, is one of its
-- vertices, and the bytes are a line for each vertex, with the least weight of a walk from the
-- source, or - if there is no walk (`IsSsspAnswer`).
-- of (0,1,3), (1,2,2), (0,2,7) and the source 1: "1 0/2 3/3 5/", with / for LF
pub record SsspMeans (m : Sparse) (source : ℕ) (bytes : List ℕ) : Type 0 where
  pub square : m.cols ≡ m.rows
  pub weights : no_negative m.entries ≡ true
  pub some : 1 ≤ source
  pub vertex : source ≤ m.rows
  pub least : IsSsspAnswer m (source - 1) bytes
