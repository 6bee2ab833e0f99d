-- The state of a rank of transpose, read from the fields.
use Rattle.app_permute.specs.declared.transpose.Transpose.TheInside.{Inside}
use Rattle.app_permute.specs.code.Sent.{permute_sent}
use Rattle.app_permute.specs.Transposes.{TransposeState}

abbrev pub transpose_state : Inside → TransposeState
transpose_state s =
    record {
      rank = s.rank;
      ranks = s.ranks;
      round = s.round;
      rows = s.rows;
      cols = s.cols;
      outgoing = permute_sent 0 s.ranks s.outgoing.items;
      cells = s.cells;
    }
