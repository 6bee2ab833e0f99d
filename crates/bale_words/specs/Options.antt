-- Options as they are among the words of a command line.
use Rattle.std.specs.Prelude.{ℕ, Bool, true, false, not, ◌&&◌, ◌==◌, List, [], ◌∷◌, ◌++◌, length, nat_lt, Option, Some}
use Rattle.std.specs.Prelude.{if◌then◌else◌}
use Rattle.std.specs.Prelude.{None}
use Rattle.std.specs.List.{list_any}
use Rattle.std.specs.Option.{option_map}
use Rattle.std.specs.Str.{bytes_eq}
use Rattle.clap.specs.Lexer.{long_of}

-- An option that was given: its name, without the hyphens, and its value. Texts are lists of bytes.
-- `--grid 2x2` and `--grid=2x2` give the name grid and the value 2x2.
pub record Given : Type 0 where
  pub name : List ℕ
  pub value : List ℕ

-- One of some names.
abbrev pub is_among : List ℕ → List (List ℕ) → Bool
is_among name names = list_any (λ n. bytes_eq n name) names

-- An option of this name was given.
abbrev pub was_given : List ℕ → List Given → Bool
was_given name gs = list_any (λ g. bytes_eq g.name name) gs

-- Each option that was given has one of the names, and none is given twice.
abbrev pub are_accepted : List (List ℕ) → List Given → Bool
are_accepted names [] = true
are_accepted names (g ∷ gs) = is_among g.name names && not (was_given g.name gs) && are_accepted names gs

-- The value of an option, if it was given.
abbrev pub value_in : List ℕ → List Given → Option (List ℕ)
value_in name [] = None
value_in name (g ∷ gs) = if bytes_eq g.name name then Some g.value else value_in name gs

-- A name that an option can have: not empty, and without `=`.
abbrev pub is_name : List ℕ → Bool
is_name name = nat_lt 0 (length name) && not (list_any (λ b. b == 61) name)

-- An option as one word: `--name=value`.
abbrev pub word_of : Given → List ℕ
word_of g = 45 ∷ 45 ∷ (g.name ++ 61 ∷ g.value)

-- One more option in front.
abbrev pub with_first : List ℕ → List ℕ → Option (List Given) → Option (List Given)
with_first name value rest = option_map (λ gs. record { name = name; value = value } ∷ gs) rest

-- A word begins with a hyphen.
abbrev pub has_hyphen : List ℕ → Bool
has_hyphen [] = false
has_hyphen (b ∷ bs) = b == 45

-- What a word of an option gives, by its name and the value behind `=`, if any; `next` reads on
-- with a name that waits.
abbrev pub given_by : Option (List ℕ × Option (List ℕ)) → Option (List Given) → (List ℕ → Option (List Given))
    → Option (List Given)
given_by None rest next = None
given_by (Some (name, None)) rest next = next name
given_by (Some (name, Some value)) rest next = with_first name value rest

-- The options that some words give, if a name may wait for its value; None if they aren't all
-- options.
-- A value in a word of its own doesn't begin with a hyphen.
abbrev pub given_from : Option (List ℕ) → List (List ℕ) → Option (List Given)
given_from None [] = Some []
given_from (Some name) [] = None
given_from (Some name) (w ∷ ws) = if has_hyphen w then None else with_first name w (given_from None ws)
given_from None (w ∷ ws) = given_by (long_of w) (given_from None ws) (λ name. given_from (Some name) ws)

-- The options that the words after the first give: `--name value` or `--name=value`, in any order.
-- The words --grid, 2, --buffer=4 give grid with the value 2, and buffer with the value 4; the
-- words --grid give nothing.
abbrev pub given_of : List (List ℕ) → Option (List Given)
given_of words = given_from None words
