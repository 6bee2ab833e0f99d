-- What a rank's port records of a turn.
use Rattle.std.specs.Prelude.{◌≡◌, ℕ, ◌≤◌, length}
use Rattle.link_slots.specs.SeatView.{SeatView, posted_on, collected_from}

-- No parcel was posted or collected between two states of a seat.
pub record HasSame (x y : SeatView) : Type 0 where
  pub sent : posted_on y ≡ posted_on x
  pub got : collected_from y ≡ collected_from x

-- No log of the first is longer than in the second.
pub record NoLess (x y : SeatView) : Type 0 where
  pub sent : (l : ℕ) → length (posted_on x l) ≤ length (posted_on y l)
  pub got : (l : ℕ) → length (collected_from x l) ≤ length (collected_from y l)
