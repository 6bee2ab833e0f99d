-- The state of a rank of delta-stepping, read from the fields.
use Rattle.delta_step.specs.declared.delta.Delta.TheInside.{Inside}
use Rattle.delta_step.specs.Deltas.{DeltaState}

abbrev pub delta_state : Inside → DeltaState
delta_state s =
    record {
      rank = s.rank;
      ranks = s.ranks;
      round = s.round;
      rows = s.rows;
      width = s.width;
      phase = s.phase;
      arriving = s.arriving;
      light = s.light;
      heavy = s.heavy;
      vertices = s.vertices;
      bucket = s.bucket;
      settled = s.settled.items;
      outgoing = s.outgoing.items;
    }
