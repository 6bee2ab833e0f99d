-- The lines of a text, or why it isn't read.
use Rattle.std.specs.Prelude.{ℕ, ◌+◌, ◌≡◌, List, [], ◌∷◌, length, nat_lt, if◌then◌else◌, Option, None, Some, Result, Ok}
use Rattle.std.specs.Prelude.{Err}
use Rattle.mtx_text.specs.Grammar.{line_after}
use Rattle.mtx_text.specs.Lines.{pieces}
use Rattle.app_tally.specs.declared.lines.LinesFault.{LinesFault}
use Rattle.app_tally.specs.declared.lines.LinesFault.TheVariants.{Source, TooLong, LineTooLong, NoMemory}

-- The first line of more than 65,535 bytes, if the first of the lines given has the number n.
abbrev pub first_long : ℕ → List (List ℕ) → Option ℕ
first_long n [] = None
first_long n (l ∷ ls) = if nat_lt 65_535 (length l) then Some n else first_long (n + 1) ls

-- The lines of a text, none of which is too long.
abbrev pub lines_unless : Option ℕ → List (List ℕ) → Result (List (List ℕ)) LinesFault
lines_unless None lines = Ok lines
lines_unless (Some n) lines = Err (LineTooLong n)

-- The lines of a text: it is cut at LF, and a last piece that isn't empty is a line; a CR is a byte
-- like any other. A text of more than 16,777,216 bytes is refused with the line of the first byte
-- too many, and else a line of more than 65,535 bytes.
-- "b/a b" has the lines "b" and "a b", and the empty text has none.
abbrev pub lines_of_text : List ℕ → Result (List (List ℕ)) LinesFault
lines_of_text text =
    if nat_lt 16_777_216 (length text) then Err (TooLong (line_after 16_777_216 text))
    else lines_unless (first_long 1 (pieces text)) (pieces text)

-- What a reader of a text answers. Want of memory is free.
abbrev pub LinesGive : Result (List (List ℕ)) LinesFault → Result (List (List ℕ)) LinesFault → Type 0
LinesGive (Ok lines) read = read ≡ Ok lines
LinesGive (Err (TooLong n)) read = read ≡ Err (TooLong n)
LinesGive (Err (LineTooLong n)) read = read ≡ Err (LineTooLong n)
LinesGive (Err Source) read = Unit {0}
LinesGive (Err NoMemory) read = Unit {0}

-- A fact, if the text was read as far as it counts.
abbrev pub OnRead : Result (List (List ℕ)) LinesFault → Type 0 → Type 0
OnRead (Ok lines) P = P
OnRead (Err (TooLong n)) P = P
OnRead (Err (LineTooLong n)) P = P
OnRead (Err Source) P = Unit {0}
OnRead (Err NoMemory) P = Unit {0}
