-- The state of a rank of permute, read from the fields.
use Rattle.app_permute.specs.declared.permute.Permute.TheInside.{Inside}
use Rattle.app_permute.specs.Permutes.{PermuteState}
use Rattle.app_permute.specs.code.Sent.{permute_sent}

abbrev pub permute_state : Inside → PermuteState
permute_state s =
    record {
      rank = s.rank;
      ranks = s.ranks;
      round = s.round;
      rows = s.rows;
      cols = s.cols;
      new_rows = s.new_rows.items;
      new_cols = s.new_cols.items;
      outgoing = permute_sent s.round s.ranks s.outgoing.items;
      cells = s.cells;
    }
