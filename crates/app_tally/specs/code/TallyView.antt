-- The state of a rank of tally, read from the fields.
use Rattle.app_tally.specs.declared.tally.Tally.TheInside.{Inside}
use Rattle.app_tally.specs.code.CountView.{counted_lines}
use Rattle.app_tally.specs.Counts.{tally_of}
use Rattle.app_tally.specs.Tallies.{TallyState}

abbrev pub tally_state : Inside → TallyState
tally_state s =
    record { rank = s.rank; ranks = s.ranks; round = s.round; own = s.own; came = tally_of (counted_lines s.came) }
