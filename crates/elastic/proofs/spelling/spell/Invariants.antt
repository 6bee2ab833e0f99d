use Rattle.std.proofs.Common.{◌≡◌, ◌+◌, ◌/◌, ◌++◌, length, map}
use Rattle.elastic.specs.Spelling.{next_items, spelling}
use Rattle.elastic.proofs.spelling.spell.Given as goal

abbrev pub invariant-loop-rest : goal.invariant-loop-rest
invariant-loop-rest l =
    l.outgoing.items ++ map (λ x. (l.to, x)) (next_items ((length l.rest + 23) / 24) l.rest)
    ≡ l.fn.outgoing.items ++ map (λ x. (l.to, x)) (spelling l.letter)

abbrev pub decreases-loop-rest : goal.decreases-loop-rest
decreases-loop-rest l = length l.rest
