use Rattle.std.proofs.Common.{◌≡◌, map, take, string_bytes}
use Rattle.bale_words.specs.Clap.{command_words}
use Rattle.bale_words.specs.Pairs.{given_pairs}
use Rattle.bale_words.proofs.parse.commanded.Given as goal

abbrev pub invariant-loop-pair : goal.invariant-loop-pair
invariant-loop-pair l = map string_bytes l.words.items ≡ command_words (given_pairs (take l.pair-index l.pairs))
