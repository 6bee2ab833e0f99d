-- Rows and columns in an order in which a matrix is upper triangular with a full diagonal.
use Rattle.std.specs.Prelude.{ℕ, ◌<◌, ◌≤◌, ◌≡◌, List, Contains}
use Rattle.std.specs.List.{All}
use Rattle.bale_items.specs.declared.triple.Triple.{Triple}

-- New numbers p of the n rows and q of the n columns, under which no entry stands below the
-- diagonal and each place of the diagonal has one.
-- p(i) ≤ q(j) for each entry (i,j); for each x there is an entry (i,j) with p(i) = q(j) = x
-- with the entries (0,0), (0,1), (1,1): p = q = 0, 1
pub record IsValid (n : ℕ) (entries : List Triple) (p q : ℕ → ℕ) : Type 0 where
  -- p permutes the numbers below n, and so does q
  pub row_below : (i : ℕ) → i < n → p i < n
  pub col_below : (j : ℕ) → j < n → q j < n
  pub row_apart : (i k : ℕ) → i < n → k < n → p i ≡ p k → i ≡ k
  pub col_apart : (j k : ℕ) → j < n → k < n → q j ≡ q k → j ≡ k
  pub above : All (λ t. p t.i ≤ q t.j) entries
  pub full : (x : ℕ) → x < n → (t : Triple) × (Contains entries t) × (p t.i ≡ x) × (q t.j ≡ x)
