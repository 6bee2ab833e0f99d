-- The command that clap reads: options with one value each, and nothing else.
use Rattle.std.specs.Prelude.{ℕ, true, List, [], ◌∷◌, Some, map, codes}
use Rattle.clap.specs.Walk.{Rule}
use Rattle.clap.specs.Simple.{App, new_rule, new_shape}
use Rattle.bale_words.specs.Options.{Given, word_of}

-- An option of a name, with one value.
abbrev pub option_rule : List ℕ → Rule
option_rule name = record (new_rule name) { long = Some name }

-- The command `bale` with an option for each name, and neither help nor version.
abbrev pub app_named : List (List ℕ) → App
app_named names =
    record {
      top = record (new_shape (codes "bale")) { disable_help_flag = true; rules = map option_rule names };
      subs = [];
    }

-- Its words: `bale`, and one word for each option that was given.
abbrev pub command_words : List Given → List (List ℕ)
command_words gs = codes "bale" ∷ map word_of gs
