-- Digits of numbers, with zeros in front, and texts that are laid into a buffer.
use Rattle.std.specs.Prelude.{◌≡◌, ℕ, ◌+◌, ◌/◌, ◌%◌, ◌<◌, ◌≤◌, List, [], ◌∷◌, ◌++◌, length, take, get_or}

-- the four digits of a number below 10,000
-- "0042" for 42
abbrev pub four : ℕ → List ℕ
four n = (48 + n / 1000) ∷ (48 + n / 100 % 10) ∷ (48 + n / 10 % 10) ∷ (48 + n % 10) ∷ []

-- a table's first `count` rows are the four digits of their numbers
-- "0000", "0001" if two are
pub record AreDigits (count : ℕ) (table : List (List ℕ)) : Type 0 where
  pub at : (n : ℕ) → n < count → get_or table n [] ≡ four n

-- a text is laid behind the first `at` bytes of a buffer, and ends at `end`
-- bytes: the bytes before are as they were
-- bound: it takes at most so many bytes
-- len: the buffer has the length that it had
-- "42" behind "7 " in five bytes of which two count: "7 42" and a byte more, to 4
pub record IsLaid (most at end : ℕ) (old new text : List ℕ) : Type 0 where
  pub bytes : take end new ≡ take at old ++ text
  pub bound : end ≤ at + most
  pub len : length new ≡ length old

-- a line has a text more at its end
-- bytes: the text itself
-- bound: it has at most so many bytes
-- "7 42" is "7 " with at most 20 bytes more
pub record HasMore (most : ℕ) (old new text : List ℕ) : Type 0 where
  pub bytes : new ≡ old ++ text
  pub bound : length new ≤ length old + most
