-- The state of a rank that looks up, read from the fields.
use Rattle.round_examples.specs.declared.lookup.Lookup.TheInside.{Inside}
use Rattle.round_examples.specs.Lookups.{LookupState}

abbrev pub lookup_state : Inside → LookupState
lookup_state s =
    record { rank = s.rank; ranks = s.ranks; table = s.table.items; queries = s.queries.items; heard = s.heard.items }
