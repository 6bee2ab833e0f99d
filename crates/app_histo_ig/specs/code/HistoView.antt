-- The state of a rank of histo, read from the fields.
use Rattle.app_histo_ig.specs.declared.histo.Histo.TheInside.{Inside}
use Rattle.app_histo_ig.specs.Histos.{HistoState}

abbrev pub histo_state : Inside → HistoState
histo_state s =
    record {
      rank = s.rank;
      ranks = s.ranks;
      round = s.round;
      cols = s.cols;
      columns = s.columns.items;
      counts = s.counts.items;
    }
