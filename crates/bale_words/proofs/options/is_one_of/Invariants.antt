use Rattle.std.proofs.Common.{◌≡◌, map, drop}
use Rattle.bale_words.specs.Options.{is_among}
use Rattle.bale_words.proofs.options.is_one_of.Given as goal

abbrev pub invariant-loop-known : goal.invariant-loop-known
invariant-loop-known l = is_among l.name (map (λ s. s.now) l.names) ≡ is_among l.name (map (λ s. s.now) (drop l.known-index l.names))
