use Rattle.std.proofs.Common.{◌≡◌, drop}
use Rattle.bale_words.specs.Options.{was_given}
use Rattle.bale_words.specs.Pairs.{given_pairs}
use Rattle.bale_words.proofs.options.comes_in.Given as goal

abbrev pub invariant-loop-pair : goal.invariant-loop-pair
invariant-loop-pair l = was_given l.name (given_pairs l.pairs) ≡ was_given l.name (given_pairs (drop l.pair-index l.pairs))
