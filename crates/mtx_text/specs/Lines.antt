-- The lines of a text and the words of a line. A text is a list of bytes.
use Rattle.std.specs.Prelude.{ℕ, ◌+◌, ◌==◌, ◌||◌, Bool, true, false, List, [], ◌∷◌, length, map, nat_lt, if◌then◌else◌}
use Rattle.std.specs.List.{filter, onto_first, slice_split}

-- The pieces of a text: it is cut at LF bytes, and what follows the last LF is a piece if
-- it isn't empty.
--   pieces (piece ++ LF ∷ rest) = piece ∷ pieces rest
--   "1 2/3" has the pieces "1 2" and "3", "1 2/" has one, the empty text has none.
abbrev pub pieces : List ℕ → List (List ℕ)
pieces [] = []
pieces (b ∷ bs) = if b == 10 then [] ∷ pieces bs else onto_first b (pieces bs)

-- A piece without the one CR that may end it.
--   without_cr (line ++ CR ∷ []) = line
--   "3 3 CR" gives "3 3", "3 CR 3" stays, and of two CRs at the end one stays.
abbrev pub without_cr : List ℕ → List ℕ
without_cr [] = []
without_cr (b ∷ []) = if b == 13 then [] else b ∷ []
without_cr (b ∷ c ∷ bs) = b ∷ without_cr (c ∷ bs)

-- The lines of a text.
--   lines_of text = the pieces, each without its CR
--   "3 3 CR LF CR" has the lines "3 3" and "".
abbrev pub lines_of : List ℕ → List (List ℕ)
lines_of text = map without_cr (pieces text)

-- What is between words.
--   space or tab, and no other byte
--   VT, FF, NUL and a CR in mid-line are bytes of words.
abbrev pub is_blank : ℕ → Bool
is_blank b = b == 32 || b == 9

-- The words of a line: the runs of bytes that aren't blank.
--   words_of line = what blanks cut, without the empty parts
--   " 1<TAB> 3" has the words "1" and "3".
abbrev pub words_of : List ℕ → List (List ℕ)
words_of line = filter (λ word. nat_lt 0 (length word)) (slice_split is_blank line)

-- A line that counts for nothing: it has no words, or its first word begins with "%".
--   asked of every line after line 1
--   "", "  " and " % end" are skipped.
abbrev pub is_skipped : List (List ℕ) → Bool
is_skipped [] = true
is_skipped ([] ∷ words) = false
is_skipped ((b ∷ bs) ∷ words) = b == 37

-- A line that counts, by its number in the text and its words.
pub record Line : Type 0 where
  pub number : ℕ
  pub words : List (List ℕ)

-- The lines that count, if the first of the lines given is line n of the text.
--   lines_from n (line ∷ rest) = (line n, if it isn't skipped) and lines_from (n + 1) rest from
--   2, "%", "3 3 4" and "1 1" give line 3 with the words "3", "3", "4" and line 4 with the words
--   "1", "1".
abbrev pub lines_from : ℕ → List (List ℕ) → List Line
lines_from n [] = []
lines_from n (line ∷ rest) =
    if is_skipped (words_of line) then lines_from (n + 1) rest
    else record { number = n; words = words_of line } ∷ lines_from (n + 1) rest
