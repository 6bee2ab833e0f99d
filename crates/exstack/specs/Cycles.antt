-- Exstack cycles: what the parcels of a link's segment are.
use Rattle.std.specs.Prelude.{ℕ, ◌+◌, ◌*◌, List, [], ◌∷◌, map, slice_get, Option, Some, None}
use Rattle.std.specs.List.{flat_map}
use Rattle.bale_items.specs.declared.item.Item.{Item}
use Rattle.bale_items.specs.declared.item.Entry.{Entry}
use Rattle.item_buffer.specs.Contents.{Shipped}
use Rattle.port_bank.specs.Logs.{segment}

-- Parcel number 2n of a segment is the proceed parcel of cycle n, and parcel number 2n + 1 its
-- exchange parcel.
-- In the segment p, q, r the proceed parcels of the cycles 0 and 1 are p and r, and q is the
-- exchange parcel of cycle 0.
abbrev pub proceed_parcel : ℕ → ℕ → List Shipped → Option Shipped
proceed_parcel e n log = slice_get (segment e log) (2 * n)

abbrev pub exchange_parcel : ℕ → ℕ → List Shipped → Option Shipped
exchange_parcel e n log = slice_get (segment e log) (2 * n + 1)

-- The entries of a parcel that may not be there.
abbrev pub entries_if_any : Option Shipped → List Entry
entries_if_any None = []
entries_if_any (Some p) = p.entries

-- The parcels of odd number of a segment, in order: its exchange parcels.
-- Of p, q, r, s they are q and s.
abbrev pub odd_ones : List Shipped → List Shipped
odd_ones [] = []
odd_ones (p ∷ []) = []
odd_ones (p ∷ q ∷ ps) = q ∷ odd_ones ps

-- The entries of all parcels of a segment, and those of its exchange parcels.
abbrev pub entries_sent : ℕ → List Shipped → List Entry
entries_sent e log = flat_map (λ p. p.entries) (segment e log)

abbrev pub entries_exchanged : ℕ → List Shipped → List Entry
entries_exchanged e log = flat_map (λ p. p.entries) (odd_ones (segment e log))

-- The items of some entries.
abbrev pub items : List Entry → List Item
items entries = map (λ e. e.item) entries
