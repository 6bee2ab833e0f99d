use Rattle.std.proofs.Common.{◌≡◌, map, drop}
use Rattle.bale_words.specs.Options.{are_accepted}
use Rattle.bale_words.specs.Pairs.{given_pairs}
use Rattle.bale_words.proofs.options.all_accepted.Given as goal

abbrev pub invariant-loop-i : goal.invariant-loop-i
invariant-loop-i l = are_accepted (map (λ s. s.now) l.names) (given_pairs l.pairs) ≡ are_accepted (map (λ s. s.now) l.names) (given_pairs (drop l.i l.pairs))
