-- The ends of a text's first line and of a line's first word.
use Rattle.std.specs.Prelude.{◌≡◌, ◌≢◌, ℕ, ◌<◌, ◌≤◌, true, false, List, ◌∷◌, length, get_or}
use Rattle.mtx_text.specs.Lines.{lines_of, words_of, is_blank}

-- No byte before k is LF, and the one at k is, where k isn't the end.
pub record CutsAt (text : List ℕ) (k : ℕ) : Type 0 where
  pub within : k ≤ length text
  pub before : (j : ℕ) → j < k → get_or text j 0 ≢ 10
  pub found : k < length text → get_or text k 0 ≡ 10

-- No byte before k is blank, and the one at k is, where k isn't the end.
pub record WordTo (line : List ℕ) (k : ℕ) : Type 0 where
  pub within : k ≤ length line
  pub before : (j : ℕ) → j < k → is_blank (get_or line j 0) ≡ false
  pub found : k < length line → is_blank (get_or line k 0) ≡ true

-- A text's first line, and what follows it.
pub record CutsLine (text line rest : List ℕ) : Type 0 where
  pub lines : lines_of text ≡ line ∷ lines_of rest
  pub shorter : length rest < length text

-- A line begins with a word.
pub record BeginsWord (line : List ℕ) : Type 0 where
  pub some : 0 < length line
  pub begins : is_blank (get_or line 0 0) ≡ false

-- A line from its first word on.
pub record IsTrimmed (line rest : List ℕ) : Type 0 where
  pub words : words_of rest ≡ words_of line
  pub begins : 0 < length rest → is_blank (get_or rest 0 0) ≡ false
