-- Two permutations drawn from a seed, of the rows and then of the columns.
use Rattle.std.specs.Prelude.{ℕ, List}
use Rattle.mtx_text.specs.Seeds.{seeded, permutation_of}

-- The new numbers of rows and columns: the element at x is the new number of row or column x.
pub record TwoLists : Type 0 where
  pub rows : List ℕ
  pub cols : List ℕ

-- The permutations of a seed: that of the rows is drawn first, that of the columns from the state
-- after it.
-- for seed 42 and three rows and columns: 2, 1, 0 and 0, 1, 2
abbrev pub perms_of : ℕ → ℕ → ℕ → TwoLists
perms_of rows cols seed = record {
  rows = (permutation_of rows (seeded seed)).0;
  cols = (permutation_of cols (permutation_of rows (seeded seed)).1).0;
}
