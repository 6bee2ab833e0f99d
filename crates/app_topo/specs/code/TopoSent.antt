-- What a rank of topo sends in its round, put together from the pairs of numbers that it keeps for
-- that.
use Rattle.std.specs.Prelude.{ℕ, ◌-◌, ◌%◌, ◌==◌, List, [], ◌∷◌, map, if◌then◌else◌}
use Rattle.std.specs.List.{flat_map}
use Rattle.bale_items.specs.declared.Item.{Item}
use Rattle.bale_items.specs.declared.triple.Triple.{Triple}

-- an entry goes to the owner of its row and to the owner of its column
abbrev pub for_both : ℕ → Triple → List (ℕ × Item)
for_both ranks t =
    (t.i % ranks, record { a = t.i; b = t.j; c = 0 }) ∷ (t.j % ranks, record { a = t.j; b = t.i; c = 1 }) ∷ []

-- a row tells the column that it claims, or a column its row
abbrev pub to_other : ℕ → ℕ → Triple → ℕ × Item
to_other ranks kind u = (u.j % ranks, record { a = u.j; b = u.i; c = kind })

-- the entries in round 0, then claims and falls in turn
abbrev pub topo_sent : ℕ → ℕ → List Triple → List (ℕ × Item)
topo_sent round ranks kept =
    if round == 0 then flat_map (for_both ranks) kept else map (to_other ranks (3 - round % 2)) kept
