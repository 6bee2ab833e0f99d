-- The options that a list of pairs stands for.
use Rattle.std.specs.Prelude.{List, map}
use Rattle.bale_words.specs.declared.options.Pair.{Pair}
use Rattle.bale_words.specs.Options.{Given}

abbrev pub given_pair : Pair → Given
given_pair p = record { name = p.name.now; value = p.value.now }

abbrev pub given_pairs : List Pair → List Given
given_pairs pairs = map given_pair pairs
