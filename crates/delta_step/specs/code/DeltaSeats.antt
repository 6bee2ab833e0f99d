-- A rank of delta-stepping, as far as it says what the rank may be sent and makes of it.
use Rattle.std.specs.Prelude.{◌≡◌, ◌<◌, Result, OnOk, OnErr}
use Rattle.delta_step.specs.declared.seat.Seat.{Seat}
use Rattle.delta_step.specs.declared.phase.Phase.TheVariants.{First}
use Rattle.delta_step.specs.Deltas.{DeltaState}

-- the seat is that of a state
pub record IsDeltaSeat (seat : Seat) (s : DeltaState) : Type 0 where
  pub own : seat.rank < seat.ranks
  pub rank : seat.rank ≡ s.rank
  pub ranks : seat.ranks ≡ s.ranks
  pub rows : seat.rows ≡ s.rows
  pub round : seat.round ≡ s.round
  pub phase : seat.phase ≡ s.phase
  pub early : seat.phase ≡ First → seat.round ≡ 0

-- an item is taken in from a seat: the state becomes the one that is made, and what is sent and the
-- seat stay
pub record DeltaTakesIn {T E : Type 0} (made : DeltaState) (seat : Seat) (old new : DeltaState)
    (result : Result T E) : Type 0 where
  pub ok : OnOk result (new ≡ made)
  pub sent : new.outgoing ≡ old.outgoing
  pub seated : IsDeltaSeat seat new

-- a round begins: the state becomes the one that is made, or what is sent stays
pub record BeginsRound {T E : Type 0} (made old new : DeltaState) (result : Result T E) : Type 0 where
  pub ok : OnOk result (new ≡ made)
  pub err : OnErr result (new.outgoing ≡ old.outgoing)
