-- A count in 64 bits that never falls, and saturates at its type's last value: of faults, of
-- parcels, of hears.
use Rattle.std.specs.Prelude.{◌≡◌, ◌<◌, ◌^◌, ◌-◌, ◌⊎◌, ◌+◌, ℕ, min}

-- a count rose in a call, or it is at its type's last value
-- RoseOrFull old new = old < new, or new = 2^64 - 1
-- from 3 to 4; from 2^64 - 1 to itself
abbrev pub RoseOrFull : ℕ → ℕ → Type 0
RoseOrFull old new = (old < new) ⊎ (new ≡ 2 ^ 64 - 1)

-- a counter's next value, which saturates at its type's end
-- next_count n = min (n + 1) (2^64 - 1)
-- 4 after 3; 2^64 - 1 after itself
abbrev pub next_count : ℕ → ℕ
next_count n = min (n + 1) (2 ^ 64 - 1)
