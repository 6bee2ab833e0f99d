-- What the answers of permute and transpose mean.
use Rattle.std.specs.Prelude.{◌≡◌, ℕ, List}
use Rattle.mtx_text.specs.Sparse.{Sparse}
use Rattle.mtx_text.specs.Permutations.{Permutes}
use Rattle.mtx_text.specs.Written.{text_of}
use Rattle.app_permute.specs.Reorderings.{IsPermuted, IsTransposed}

-- The bytes are the text of a matrix B with B(p(i), q(j)) = A(i,j) and nothing else, if p and q
-- are permutations of the rows and the columns. Its entries, by row and then column, are a finite
-- map: each place comes once (proofs/Meanings has both: nothing_else, permute_agrees).
-- of 3 rows and columns with (0,1,9), p = 1, 2, 0 and q = 2, 0, 1: the text of the matrix with
-- (1,0,9)
pub record PermuteMeans (p q : List ℕ) (m : Sparse) (bytes : List ℕ) : Type 0 where
  pub matrix : Sparse
  pub text : bytes ≡ text_of matrix
  pub rows : Permutes m.rows p
  pub cols : Permutes m.cols q
  pub values : IsPermuted p q m matrix

-- The bytes are the text of a matrix B with B(j,i) = A(i,j) for all i and j, so with nothing else.
-- Its entries, by row and then column, are a finite map (transpose_agrees in proofs/Meanings).
-- of 2 rows and 3 columns with (0,2,-7), (1,0,4): the text of 3 rows and 2 columns with (0,1,4),
-- (2,0,-7)
pub record TransposeMeans (m : Sparse) (bytes : List ℕ) : Type 0 where
  pub matrix : Sparse
  pub text : bytes ≡ text_of matrix
  pub values : IsTransposed m matrix
