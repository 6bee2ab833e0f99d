-- What a pair of ranks sends over a link.
use Rattle.std.specs.Prelude.{ℕ, ◌-◌, Bool, List, map}
use Rattle.std.specs.List.{filter, flat_map}
use Rattle.bale_items.specs.declared.item.Entry.{Entry}
use Rattle.bale_items.specs.declared.item.Item.{Item}
use Rattle.item_buffer.specs.Contents.{Shipped}
use Rattle.route_tensor.specs.Grid.{place}
use Rattle.route_tensor.specs.Link.{link}
pub use Rattle.list_laws.specs.Lists.{IsPrefix}
pub use Rattle.route_tensor.specs.Pair.{belongs}
use Rattle.port_bank.specs.Logs.{Logs, segment}

-- The link of hop h on the route from s to d.
-- (h, place(s,d,h-1), place(s,d,h))
-- In the grid 2x2x2 the route from 1 to 6 has on hop 2 the link (2,0,2), which has the number 17.
abbrev pub hop_link : List ℕ → ℕ → ℕ → ℕ → ℕ
hop_link dims s d h = link dims h (place dims s d (h - 1)) (place dims s d h)

-- The items of those entries of some parcels that pass a test, in order.
abbrev pub passing_items : (Entry → Bool) → List Shipped → List Item
passing_items keep log = map (λ e. e.item) (filter keep (flat_map (λ p. p.entries) log))

-- The flow of the pair from s to d on hop h in epoch e: the items of the entries of segment e of
-- the log of its hop-h link that belong to it, in order.
-- In the grid 2 with capacity 1, rank 0 sends x to 0, then y to 1: the flow from 0 to 1 on hop 1 is
-- [y].
abbrev pub flow : List ℕ → Logs → ℕ → ℕ → ℕ → ℕ → List Item
flow dims logs s d h e = passing_items (belongs dims s d h) (segment e (logs (hop_link dims s d h)))
