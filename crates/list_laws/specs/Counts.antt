-- Counters of 64 bits.
use Rattle.std.specs.Prelude.{ℕ, ◌-◌, ◌^◌, min}

-- A count as a counter shows it that saturates.
-- counted n = min n (2^64 - 1)
-- Of 3 it is 3.
abbrev pub saturated_count : ℕ → ℕ
saturated_count n = min n (2 ^ 64 - 1)
