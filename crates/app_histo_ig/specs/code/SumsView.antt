-- The state of a rank that adds up columns, read from the fields.
use Rattle.std.specs.Prelude.{map}
use Rattle.app_histo_ig.specs.declared.ig_sums.IgSums.TheInside.{Inside}
use Rattle.app_histo_ig.specs.code.IgSent.{to_add}
use Rattle.app_histo_ig.specs.Sums.{SumsState}

abbrev pub sums_state : Inside → SumsState
sums_state s =
    record {
      rank = s.rank;
      ranks = s.ranks;
      round = s.round;
      cols = s.cols;
      values = map (to_add s.ranks) s.own.items;
      sums = s.sums.items;
    }
