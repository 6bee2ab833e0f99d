-- What a rank sends in its round, read from the cells that it keeps for it.
use Rattle.std.specs.Prelude.{ℕ, ◌%◌, ◌==◌, List, map, if◌then◌else◌}
use Rattle.bale_items.specs.declared.Item.{Item}
use Rattle.bale_items.specs.declared.triple.Triple.{Triple}
use Rattle.app_permute.specs.Carried.{cell_item}
use Rattle.app_permute.specs.Permutes.{new_number}

-- a cell goes to the owner of its column in round 1 of permute, and else to that of its row
abbrev pub to_cell_owner : ℕ → ℕ → Triple → ℕ × Item
to_cell_owner round ranks t = ((if round == 1 then t.j else t.i) % ranks, cell_item t)

abbrev pub permute_sent : ℕ → ℕ → List Triple → List (ℕ × Item)
permute_sent round ranks cells = map (to_cell_owner round ranks) cells

-- after round 0 of permute: a cell with the new number of its row
abbrev pub with_new_row : ℕ → List ℕ → Triple → Triple
with_new_row ranks news t = record { i = new_number ranks news t.i; j = t.j; v = t.v }

-- after round 1 of permute: a cell, kept by its column first, with the new number of its column, by
-- its row first
abbrev pub with_new_column : ℕ → List ℕ → Triple → Triple
with_new_column ranks news t = record { i = t.j; j = new_number ranks news t.i; v = t.v }
