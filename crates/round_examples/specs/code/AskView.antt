-- The state of a rank that asks, read from the fields.
use Rattle.std.specs.Prelude.{map}
use Rattle.round_examples.specs.declared.ask.Ask.TheInside.{Inside}
use Rattle.round_examples.specs.Asks.{AskState}

abbrev pub ask_state : Inside → AskState
ask_state s =
    record {
      rank = s.rank;
      ranks = s.ranks;
      round = s.round;
      table = s.table.items;
      queries = map (λ l. l.items) s.queries.items;
      outgoing = s.outgoing.items;
      answers = s.answers.items;
    }
