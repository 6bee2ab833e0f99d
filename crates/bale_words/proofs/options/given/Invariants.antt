use Rattle.std.proofs.Common.{◌≡◌, ◌++◌, map, drop, string_bytes}
use Rattle.std.specs.Option.{option_map}
use Rattle.bale_words.specs.Options.{given_of, given_from}
use Rattle.bale_words.specs.Pairs.{given_pairs}
use Rattle.bale_words.proofs.options.given.Given as goal

abbrev pub invariant-loop-word : goal.invariant-loop-word
invariant-loop-word l = given_of (map string_bytes l.words) ≡ option_map (λ gs. given_pairs l.pairs.items ++ gs) (given_from (option_map (λ s. s.now) l.waiting) (map string_bytes (drop l.word-index l.words)))
