-- What contracts see of a closed round.
use Rattle.port_bank.specs.Round.{Round}
use Rattle.rank_group.specs.declared.closed_round.ClosedRound.{ClosedRound}
use Rattle.rank_group.specs.declared.closed_round.ClosedRound.TheVariants.{Plain, Slots}

-- The round in it.
abbrev pub round_inside : ClosedRound → Round
round_inside (Plain round) = round
round_inside (Slots round) = round
