-- Bytes that came and weren't kept.
use Rattle.std.specs.Prelude.{ℕ, List, [], ◌∷◌, ◌++◌}
use Rattle.bale_answers.specs.declared.counter.Log.{Log, Nothing, More'}

-- The bytes of a log, in the order in which they came.
abbrev pub bytes_of : Log → List ℕ
bytes_of Nothing = []
bytes_of (More' marker before b) = bytes_of before ++ b ∷ []
