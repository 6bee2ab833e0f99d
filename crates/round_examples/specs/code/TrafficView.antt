-- The state of a rank's traffic, read from the fields.
use Rattle.round_examples.specs.declared.traffic.Traffic.TheInside.{Inside}
use Rattle.round_examples.specs.Traffics.{TrafficState}

abbrev pub traffic_state : Inside → TrafficState
traffic_state s =
    record {
      rank = s.rank;
      ranks = s.ranks;
      round = s.round;
      rounds = s.rounds;
      targets = s.targets.items;
      counts = s.counts.items;
      check = s.check;
    }
