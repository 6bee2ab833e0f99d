-- Two's complement in 64 bits: how a signed number travels in a word.
use Rattle.std.specs.Prelude.{◌-◌, ◌^◌, ℕ, ℤ, pos, negsuc, nat_lt, if◌then◌else◌}

-- the word of a number from -2^63 to 2^63 - 1
-- n itself, and 2^64 - n for -n; negsuc n is -(n + 1)
-- 5 for 5; 2^64 - 1 for -1
abbrev pub twos_complement : ℤ → ℕ
twos_complement (pos n) = n
twos_complement (negsuc n) = 2 ^ 64 - 1 - n

-- the number that a word stands for
-- w itself below 2^63, and else -(2^64 - w)
-- 5 for 5; -1 for 2^64 - 1
abbrev pub from_twos_complement : ℕ → ℤ
from_twos_complement w = if nat_lt w (2 ^ 63) then pos w else negsuc (2 ^ 64 - 1 - w)
