-- What a rank of sssp is sent depends on.
use Rattle.std.specs.Prelude.{◌≡◌, ◌<◌}
use Rattle.app_sssp.specs.declared.seat.Seat.{Seat}
use Rattle.app_sssp.specs.Sssps.{SsspState}

-- the seat is that of a state
pub record IsSsspSeat (seat : Seat) (s : SsspState) : Type 0 where
  pub own : seat.rank < seat.ranks
  pub rank : seat.rank ≡ s.rank
  pub ranks : seat.ranks ≡ s.ranks
  pub rows : seat.rows ≡ s.rows
  pub round : seat.round ≡ s.round
