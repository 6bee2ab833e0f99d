-- The state of a rank of sssp, read from the fields.
use Rattle.app_sssp.specs.declared.sssp.Sssp.TheInside.{Inside}
use Rattle.app_sssp.specs.Sssps.{SsspState}

abbrev pub sssp_state : Inside → SsspState
sssp_state s =
    record {
      rank = s.rank;
      ranks = s.ranks;
      round = s.round;
      rows = s.rows;
      arriving = s.arriving;
      table = s.table;
      vertices = s.vertices;
      outgoing = s.outgoing.items;
    }
