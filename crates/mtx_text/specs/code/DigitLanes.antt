-- Bytes that are no digits, and eight bytes or digits as one number.
use Rattle.std.specs.Prelude.{ℕ, ◌+◌, ◌*◌, Bool, true, false, not, List, [], ◌∷◌, ◌++◌, map, take, get_or, replicate}
use Rattle.std.specs.Char.{is_ascii_digit}

-- A byte that is no digit.
--   of "7 ": no for "7", and yes for the space
abbrev pub is_no_digit : ℕ → Bool
is_no_digit b = not (is_ascii_digit b)

-- What is in a word above the bits of sixteen bytes: the topmost bit is set, so that no word is
-- 0.
abbrev pub above : List Bool
above = replicate 47 false ++ true ∷ []

-- Which of a text's first k bytes are no digits, and the bits above.
--   of "7 2/", 4 bytes: no, yes, no, yes, and then those above
abbrev pub bits_of : ℕ → List ℕ → List Bool
bits_of k text = map is_no_digit (take k text) ++ above

-- Eight bytes as a word, byte 0 the lowest.
--   a word of bytes 1, 0, 0, .. is 1, and one of bytes 0, 1, 0, .. is 256
abbrev pub word_from : (ℕ → ℕ) → ℕ
word_from byte =
    byte 0 + 256 *
    (byte 1 + 256 * (byte 2 + 256 * (byte 3 + 256 * (byte 4 + 256 * (byte 5 + 256 * (byte 6 + 256 * byte 7))))))

-- Eight digits as a number, digit 0 in front.
--   of digits 0, .., 0, 1, 2 it is 12
abbrev pub number_from : (ℕ → ℕ) → ℕ
number_from digit =
    10_000_000 * digit 0 + 1_000_000 * digit 1 + 100_000 * digit 2 + 10_000 * digit 3 + 1_000 * digit 4 + 100 * digit 5
    + 10 * digit 6 + digit 7

-- The word of a text's first eight bytes.
--   of "10000000" it is 0x3030303030303031
abbrev pub lane_word : List ℕ → ℕ
lane_word text = word_from (λ k. get_or text k 0)
