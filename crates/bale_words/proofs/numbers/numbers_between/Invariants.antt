use Rattle.std.proofs.Common.{◌≡◌, ◌++◌, map, length, ◌+◌}
use Rattle.std.specs.Option.{option_map, option_map_or}
use Rattle.bale_words.specs.Numbers.{all_some, number_in, numbers_in, text_parts}
use Rattle.bale_words.proofs.numbers.numbers_between.Given as goal

abbrev pub invariant-loop-rest : goal.invariant-loop-rest
invariant-loop-rest l = option_map (λ ns. l.list.items ++ ns) (all_some (map (number_in l.low l.high) (text_parts l.separator (option_map (λ s. s.now) l.rest)))) ≡ numbers_in l.fn.separator l.fn.low l.fn.high l.fn.text

abbrev pub decreases-loop-rest : goal.decreases-loop-rest
decreases-loop-rest l = option_map_or (λ s. length s.now + 1) l.rest 0
