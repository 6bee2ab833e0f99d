-- How many times each line was read.
use Rattle.std.specs.Prelude.{ℕ, ◌+◌, ◌<◌, ◌≡◌, List, [], ◌∷◌, ◌++◌, count_by, decimal}
use Rattle.std.specs.Cmp.Lexicographic.{slice_cmp}
use Rattle.std.specs.List.{All, Contains, fold, flat_map}
use Rattle.std.specs.Ordering.{nat_cmp, is_eq}
use Rattle.std.specs.declared.cmp.Ordering.{Ordering}
use Rattle.std.specs.declared.cmp.Ordering.TheVariants.{Less, Equal, Greater}

-- The order of lines: by their bytes, and a line before those that it begins.
-- "" is less than "a", "a" less than "a b", "a b" less than "b".
abbrev pub by_bytes : List ℕ → List ℕ → Ordering
by_bytes = slice_cmp nat_cmp

-- A line and how many times it was read.
abbrev pub Entry : Type 0
Entry = List ℕ × ℕ

-- How many times a line is among lines.
-- times "b" ("b", "a", "b", "") = 2
abbrev pub times : List ℕ → List (List ℕ) → ℕ
times l lines = count_by (λ m. is_eq (by_bytes l m)) lines

-- Entries with one more line that was compared with the first of them; `later` are the others with
-- that line.
abbrev pub counted_by : Ordering → List ℕ → Entry → List Entry → List Entry → List Entry
counted_by Less l e es later = (l, 1) ∷ e ∷ es
counted_by Equal l e es later = (e.0, e.1 + 1) ∷ es
counted_by Greater l e es later = e ∷ later

-- Entries with one more line, at its place in the order.
abbrev pub with_line : List ℕ → List Entry → List Entry
with_line l [] = (l, 1) ∷ []
with_line l (e ∷ es) = counted_by (by_bytes l e.0) l e es (with_line l es)

-- The tally of lines: the distinct ones in order, each with how many times it was read.
-- Of "b", "a", "b", "", "a b": ("", 1), ("a", 1), ("a b", 1), ("b", 2).
abbrev pub tally_of : List (List ℕ) → List Entry
tally_of lines = fold (λ es l. with_line l es) [] lines

-- A line is before those of all entries.
abbrev pub Before : List ℕ → List Entry → Type 0
Before l [] = Unit {0}
Before l (e ∷ es) = (by_bytes l e.0 ≡ Less) × Before l es

-- Each line is before those that follow it.
abbrev pub Rises : List Entry → Type 0
Rises [] = Unit {0}
Rises (e ∷ es) = Before e.0 es × Rises es

-- What a tally is, entry by entry: the lines rise, each entry has the number of times that its line
-- was read, at least once, and whatever line was read has its entry.
pub record IsTally (lines : List (List ℕ)) (entries : List Entry) : Type 0 where
  pub rises : Rises entries
  pub some : All (λ e. 0 < e.1) entries
  pub each : All (λ e. e.1 ≡ times e.0 lines) entries
  pub all : (l : List ℕ) → 0 < times l lines → Contains entries (l, times l lines)

-- The text of an entry: the number of times, one space, the line and LF. ("b", 2) is "2 b\n".
abbrev pub count_text : Entry → List ℕ
count_text e = (decimal e.1 ++ 32 ∷ []) ++ (e.0 ++ 10 ∷ [])

-- The answer of tally: the text of each entry, in order.
abbrev pub tally_text : List Entry → List ℕ
tally_text entries = flat_map count_text entries
