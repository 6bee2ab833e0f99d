-- Entries read from lines and numbers, and the lines that they count.
use Rattle.std.specs.Prelude.{ℕ, ◌≡◌, ◌<◌, List, [], ◌∷◌, length, replicate}
use Rattle.std.specs.List.{All, fold, flat_map}
use Rattle.elastic.specs.Spelling.{IsLetter}
use Rattle.app_tally.specs.Counts.{Entry, with_line, Rises}

-- Lines, each with its number.
-- entries_of ("a", "b") (1, 2) = ("a", 1), ("b", 2)
abbrev pub numbered_lines : List (List ℕ) → List ℕ → List Entry
numbered_lines [] times = []
numbered_lines (l ∷ ls) [] = []
numbered_lines (l ∷ ls) (n ∷ ns) = (l, n) ∷ numbered_lines ls ns

-- each line has its number, and the lines rise
pub record IsCounts (lines : List (List ℕ)) (times : List ℕ) : Type 0 where
  pub same : length times ≡ length lines
  pub rises : Rises (numbered_lines lines times)

-- each line has its number, which isn't zero; a line may be there twice
pub record IsMultiset (lines : List (List ℕ)) (times : List ℕ) : Type 0 where
  pub same : length times ≡ length lines
  pub some : All (λ n. 0 < n) times

-- The entry of a line that may be sent and was counted at least once.
abbrev pub IsLineEntry : Entry → Type 0
IsLineEntry e = IsLetter e.0 × (0 < e.1)

-- The lines that entries count: each as often as its number says.
-- counted_lines (("b", 2), ("a", 1)) = "b", "b", "a"
abbrev pub counted_lines : List Entry → List (List ℕ)
counted_lines entries = flat_map (λ e. replicate e.1 e.0) entries

-- Entries with one line n more times.
-- counted_times 2 "b" (("a", 1), ("b", 3)) = ("a", 1), ("b", 5)
abbrev pub counted_times : ℕ → List ℕ → List Entry → List Entry
counted_times n line entries = fold (λ es l. with_line l es) entries (replicate n line)
