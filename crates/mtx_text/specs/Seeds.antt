-- The words of a seed, and the permutations drawn from them: the PCG generator XSH RR 64/32 of
-- O'Neill with the increment 109, and the shuffle of Fisher and Yates.
use Rattle.std.specs.Prelude.{ℕ, zero, suc, ◌+◌, ◌-◌, ◌*◌, ◌/◌, ◌%◌, ◌^◌, List, bit_xor}
use Rattle.std.specs.Int.{w32, rotate_right}
use Rattle.std.specs.List.{range_with_len, swap}

-- A step of the generator.
abbrev pub step : ℕ → ℕ
step state = (state * 6364136223846793005 + 109) % 2 ^ 64

-- The word of a state x: the low 32 bits of ((x >> 18) xor x) >> 27, rotated right by x >> 59.
abbrev pub word : ℕ → ℕ
word state = rotate_right w32 (bit_xor (state / 2 ^ 18) state / 2 ^ 27 % 2 ^ 32) (state / 2 ^ 59)

-- The state after a seed: from 0 one step, the seed is added, one step.
abbrev pub seeded : ℕ → ℕ
seeded seed = step ((step 0 + seed) % 2 ^ 64)

-- For i from the number given down to 1, one word w is drawn and the elements at i and w mod (i +
-- 1) change places.
-- shuffled i list state = the list, and the generator's state after it
abbrev pub shuffle_of : ℕ → List ℕ → ℕ → List ℕ × ℕ
shuffle_of zero list state = (list, state)
shuffle_of (suc i) list state = shuffle_of i (swap list (suc i) (word state % (i + 2))) (step state)

-- The permutation of n numbers drawn from a state, and the state after it.
-- from seed 42 the permutation of 3 numbers is 2, 1, 0, and the next one is 0, 1, 2.
abbrev pub permutation_of : ℕ → ℕ → List ℕ × ℕ
permutation_of n state = shuffle_of (n - 1) (range_with_len 0 n) state
