-- The state of a rank, read from the fields.
use Rattle.skeleton.specs.declared.program.Skeleton.TheInside.{Inside}
use Rattle.skeleton.specs.State.{State}

abbrev pub state : Inside → State
state s = record { rank = s.rank; ranks = s.ranks; round = s.round; sends = s.sends.items; cells = s.cells }
