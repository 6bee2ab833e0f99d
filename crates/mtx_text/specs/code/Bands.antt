-- The entries of a generated band, as they are drawn.
use Rattle.std.specs.Prelude.{◌≡◌, ℕ, List, [], length}
use Rattle.std.specs.List.{All}
use Rattle.bale_items.specs.declared.triple.Triple.{Triple}
use Rattle.mtx_text.specs.declared.kind.Kind.TheVariants.{Integer}
use Rattle.mtx_text.specs.Sparse.{IsEntry}
use Rattle.mtx_text.specs.Cells.{sparse}
use Rattle.mtx_text.specs.Generated.{hidden_triangle, positions}

-- The m entries of a band of n rows, hidden under two permutations with the words from a state on.
pub record Hides (n m : ℕ) (p q : List ℕ) (state : ℕ) (entries : List Triple) : Type 0 where
  pub are : entries ≡ hidden_triangle p q state (positions n m)
  pub inside : All (λ t. IsEntry (sparse n n Integer []) t) entries
  pub few : length entries ≡ m
