-- Permutations of the numbers below n, as lists.
use Rattle.std.specs.Prelude.{ℕ, List, IsPermutation}
use Rattle.std.specs.List.{range_with_len}

-- The list has each number below n once, and no other.
-- Permutes n p = p is 0, 1, .., n - 1 in some order
-- 2, 0, 1 permutes 3 numbers; 1, 1, 0 doesn't.
abbrev pub Permutes : ℕ → List ℕ → Type 0
Permutes n p = IsPermutation (range_with_len 0 n) p
