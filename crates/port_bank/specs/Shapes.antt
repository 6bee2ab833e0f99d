-- How the parcels of a log are filled, by who sends them.
use Rattle.std.specs.Prelude.{◌≡◌, ℕ, ◌+◌, ◌/◌, ◌%◌, ◌<◌, ◌≤◌, Bool, true, false, List, [], length, slice_index_or}
use Rattle.std.specs.List.{All, sum_by}
use Rattle.item_buffer.specs.Contents.{Shipped}
use Rattle.port_bank.specs.Logs.{segment}

-- Whether a parcel that isn't marked last holds enough to be sent: as many entries as its capacity
-- or, on steady conveyors, at least one.
abbrev pub IsFilled : Bool → ℕ → Shipped → Type 0
IsFilled false cap p = length p.entries ≡ cap
IsFilled true cap p = 0 < length p.entries

-- The shape of a conveyor's log: every parcel that isn't marked last is filled.
-- At capacity 2 the parcels [x, y], [z] have it if the second is marked last.
abbrev pub IsConveyorShape : Bool → ℕ → List Shipped → Type 0
IsConveyorShape steady cap log = All (λ p. p.last ≡ false → IsFilled steady cap p) log

-- The shape of an exstack's log: in each segment every parcel of even number is empty, and no
-- parcel of odd number is marked last.
-- The parcels [], [x], [] have it if the third is marked last.
pub record IsExstackShape (log : List Shipped) : Type 0 where
  pub empty : (e i : ℕ) (d : Shipped) → i < length (segment e log) → i % 2 ≡ 0
      → (slice_index_or (segment e log) i d).entries ≡ []
  pub goes_on : (e i : ℕ) (d : Shipped) → i < length (segment e log) → i % 2 ≡ 1
      → (slice_index_or (segment e log) i d).last ≡ false

-- So many entries travel in few parcels: in each epoch in no more than full ones would take, and
-- one more.
-- The number of parcels of segment e is at most n div cap + 1, where n is the number of their
-- entries.
-- At capacity 2 five entries travel in at most three parcels.
abbrev pub TravelInFew : ℕ → List Shipped → Type 0
TravelInFew cap log = (e : ℕ) → length (segment e log) ≤ sum_by (λ p. length p.entries) (segment e log) / cap + 1
