-- The capacities of parcels.
use Rattle.std.specs.Prelude.{ℕ, Bool, true, List, [], ◌∷◌, ◌≡◌, ◌==◌, ◌<◌, ◌≤◌}
use Rattle.std.specs.List.{list_any}
use Rattle.item_buffer.specs.declared.capacity.TheConstants.{MOST_ENTRIES}

-- A number of entries that a parcel can be made to hold.
pub record IsCap (cap : ℕ) : Type 0 where
  pub some : 0 < cap
  pub small : cap ≤ MOST_ENTRIES

-- The capacities that the product is compiled for: the powers of two from 1 to 1,024.
abbrev pub capacities : List ℕ
capacities = 1 ∷ 2 ∷ 4 ∷ 8 ∷ 16 ∷ 32 ∷ 64 ∷ 128 ∷ 256 ∷ 512 ∷ 1024 ∷ []

-- Whether the product is compiled for parcels of this capacity: it is for 64, and for 3 and 2,048
-- it isn't.
abbrev pub is_capacity : ℕ → Bool
is_capacity cap = list_any (λ size. size == cap) capacities

unfoldable pub IsCapacity : ℕ → Type 0
IsCapacity cap = is_capacity cap ≡ true
