-- The state of a rank that counts, read from the fields.
use Rattle.round_examples.specs.declared.count.Count.TheInside.{Inside}
use Rattle.round_examples.specs.Counts.{CountState}

abbrev pub count_state : Inside → CountState
count_state s =
    record { rank = s.rank; ranks = s.ranks; round = s.round; names = s.names.items; counts = s.counts.items }
