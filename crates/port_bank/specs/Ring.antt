-- The places of a link, which go round.
use Rattle.std.specs.Prelude.{◌≡◌, ℕ, ◌-◌, ◌≤◌, List, ◌++◌, map, take, drop, length}
use Rattle.std.specs.List.{All}
use Rattle.item_buffer.specs.Capacity.{IsCap}
use Rattle.item_buffer.specs.Contents.{Contents, Shipped, as_shipped, as_arrived, blank}

-- The places from place n on, round to the one before it.
-- turned n xs = drop n xs ++ take n xs
-- Of the places a, b, c, from place 2 on: c, a, b.
abbrev pub turned_from : {X : Type 0} → ℕ → List X → List X
turned_from n xs = drop n xs ++ take n xs

-- The parcels in transit: those of the first places from place `first` on, as many as wait.
-- Of a, b, c with first 2 and 2 that wait: c, a.
abbrev pub in_transit : ℕ → ℕ → List Contents → List Shipped
in_transit first waiting places = map as_shipped (take waiting (turned_from first places))

-- What the places of a link keep, for parcels of capacity cap.
-- begins: the place of the next collect is one of them.
-- within: no more parcels are in transit than there are places.
-- fresh: of a parcel in transit no entry is taken.
-- empty: in every other place is an empty parcel.
-- Example: of three places with first 2 and 2 that wait, place 1 has the empty one.
pub record IsRing (cap first waiting : ℕ) (places : List Contents) : Type 0 where
  pub is_cap : IsCap cap
  pub begins : first ≤ length places - 1
  pub within : waiting ≤ length places
  pub fresh : All (λ c. c ≡ as_arrived (as_shipped c)) (take waiting (turned_from first places))
  pub empty : All (λ c. c ≡ blank c.epoch) (drop waiting (turned_from first places))
