-- Elements dealt out to ranks: each has one owner, which is a rank.
use Rattle.std.specs.Prelude.{ℕ, ◌==◌, List, map}
use Rattle.std.specs.List.{filter, range_with_len}

-- What rank r owns, in the list's order.
-- dealt owner r xs = the x of xs with owner x = r
-- 5, 6, 7, 8 with the owner x mod 2: rank 1 has 5, 7.
abbrev pub dealt : {X : Type 0} → (X → ℕ) → ℕ → List X → List X
dealt owner r xs = filter (λ x. owner x == r) xs

-- The hands of the ranks from 0 to n - 1.
-- 5, 6, 7, 8 with the owner x mod 2 and 2 ranks: the lists 6, 8 and 5, 7.
abbrev pub hands : {X : Type 0} → (X → ℕ) → ℕ → List X → List (List X)
hands owner n xs = map (λ r. dealt owner r xs) (range_with_len 0 n)
