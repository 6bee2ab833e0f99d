-- Pairs of ranks, and the ranks and entries on their routes.
use Rattle.std.specs.Prelude.{◌≡◌, ℕ, ◌+◌, ◌-◌, ◌<◌, ◌≤◌, ◌==◌, ◌&&◌, Bool, List, length, map}
use Rattle.std.specs.List.{filter}
use Rattle.bale_items.specs.declared.item.Entry.{Entry}
use Rattle.bale_items.specs.declared.item.Item.{Item}
use Rattle.route_tensor.specs.Grid.{ranks, place, IsGrid}
use Rattle.route_tensor.specs.Link.{IsOnRoute}
use Rattle.route_tensor.specs.Tag.{IsFair, tag_at, next_tag, sender_of, destination_of}

-- A pair of ranks whose route has rank r between hop h and hop h + 1.
-- In the grid 2x2x2 rank 0 is there for the pair from 1 to 6 with h = 1.
pub record PassesThrough (dims : List ℕ) (r s d h : ℕ) : Type 0 where
  pub sender : s < ranks dims
  pub destination : d < ranks dims
  pub first_hop : 1 ≤ h
  pub last_hop : h < length dims
  pub here : place dims s d h ≡ r

-- Whether an entry on the hop-h link of the route from s to d belongs to that pair: its sender is s
-- and its destination is d.
-- In the grid 2x2x2 an entry with the tag (1,0,1) on (2,0,2) belongs to the pair from 1 to 6.
abbrev pub belongs : List ℕ → ℕ → ℕ → ℕ → Entry → Bool
belongs dims s d h e =
    (sender_of dims e.tag h (place dims s d (h - 1)) == s) && (destination_of dims e.tag h (place dims s d h) == d)

-- The items of the entries of a pair, in order, among some entries on the hop-h link of its route.
abbrev pub items_of_pair : List ℕ → ℕ → ℕ → ℕ → List Entry → List Item
items_of_pair dims s d h entries = map (λ e. e.item) (filter (belongs dims s d h) entries)

-- The tag of the pair from s to d names it on the link (h,a,b) of its route: the tag is fair there,
-- its sender and its destination are s and d, and a relay makes of it the tag on the next link.
-- In the grid 2x2x2 the tag (1,0,1) of the pair from 1 to 6 is fair on (2,0,2), tells 1 and 6
-- there, and becomes (1,0,0).
pub record NamesPair (dims : List ℕ) (s d h a b : ℕ) : Type 0 where
  pub fair : IsFair dims h (tag_at dims s d h)
  pub sender : sender_of dims (tag_at dims s d h) h a ≡ s
  pub destination : destination_of dims (tag_at dims s d h) h b ≡ d
  pub next : h < length dims → next_tag dims (tag_at dims s d h) h a ≡ tag_at dims s d (h + 1)

-- Every pair's tag names it on each link of its route.
abbrev pub TagsLaw : Type 0
TagsLaw = (dims : List ℕ) (s d h a b : ℕ) → IsGrid dims → IsOnRoute dims s d h a b → NamesPair dims s d h a b
