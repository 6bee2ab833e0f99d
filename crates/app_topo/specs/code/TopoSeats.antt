-- What a rank of topo is sent depends on.
use Rattle.std.specs.Prelude.{◌≡◌, Result, OnOk}
use Rattle.app_topo.specs.declared.seat.Seat.{Seat}
use Rattle.app_topo.specs.Topos.{TopoState}

-- the seat is that of a state
pub record IsTopoSeat (seat : Seat) (s : TopoState) : Type 0 where
  pub rank : seat.rank ≡ s.rank
  pub ranks : seat.ranks ≡ s.ranks
  pub size : seat.size ≡ s.size
  pub round : seat.round ≡ s.round

-- an item is taken in from a seat: the state becomes the one that is made, and what is sent and the
-- seat stay
pub record TopoTakesIn {T E : Type 0} (made : TopoState) (seat : Seat) (old new : TopoState)
    (result : Result T E) : Type 0 where
  pub ok : OnOk result (new ≡ made)
  pub sent : new.outgoing ≡ old.outgoing
  pub seated : IsTopoSeat seat new
