-- New numbers of rows and columns.
use Rattle.std.specs.Prelude.{ℕ, ◌-◌, ◌==◌, ◌&&◌, Bool, true, not, nat_lt, List, [], ◌∷◌, length, map, Option, None}
use Rattle.std.specs.Prelude.{Some}
use Rattle.std.specs.List.{list_all, list_any, range_with_len}
use Rattle.mtx_text.specs.Sparse.{Sparse}
use Rattle.app_permute.specs.Perms.{TwoLists, perms_of}
use Rattle.bale_words.specs.declared.command.Permutations.{Permutations}
use Rattle.bale_words.specs.declared.command.Permutations.TheVariants.{Lists, Seed}

-- No number is twice in a list.
abbrev pub none_twice : List ℕ → Bool
none_twice [] = true
none_twice (x ∷ xs) = not (list_any (λ y. y == x) xs) && none_twice xs

-- A list has each number below n once: n numbers below n, none twice.
abbrev pub has_each : ℕ → List ℕ → Bool
has_each n numbers = (length numbers == n) && (list_all (λ x. nat_lt x n) numbers && none_twice numbers)

-- Numbers counted from 1, counted from 0.
abbrev pub from_zero : List ℕ → List ℕ
from_zero numbers = map (λ x. x - 1) numbers

-- A list numbers n rows or columns, if one is given: it has each number from 1 to n once.
-- 2, 3, 1 numbers three; 1, 1, 2 and 0, 1, 2 don't.
abbrev pub numbers_all : ℕ → Option (List ℕ) → Bool
numbers_all n None = true
numbers_all n (Some numbers) = list_all (λ x. nat_lt 0 x) numbers && has_each n (from_zero numbers)

-- The new numbers, counted from 0: those of a list, or the old ones.
abbrev pub new_numbers : ℕ → Option (List ℕ) → List ℕ
new_numbers n None = range_with_len 0 n
new_numbers n (Some numbers) = from_zero numbers

-- The new numbers of a matrix' rows and columns.
abbrev pub perms_for : Permutations → Sparse → TwoLists
perms_for (Lists rows cols) m = record { rows = new_numbers m.rows rows; cols = new_numbers m.cols cols }
perms_for (Seed seed) m = perms_of m.rows m.cols seed
