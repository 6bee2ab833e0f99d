-- Sums over the first n numbers, such as the ranks 0 to n - 1.
use Rattle.std.specs.Prelude.{ℕ, zero, suc, ◌+◌}

-- The sum of a function over the numbers below n.
-- total n f = f 0 + f 1 + .. + f (n - 1).
-- total 3 (λ k. k) is 3.
abbrev pub total : ℕ → (ℕ → ℕ) → ℕ
total zero f = 0
total (suc n) f = total n f + f n
