-- Cells in transit from rank to rank.
use Rattle.std.specs.Prelude.{ℕ, ◌%◌, ◌==◌, ◌&&◌, nat_lt, Bool}
use Rattle.bale_items.specs.declared.Item.{Item}
use Rattle.bale_items.specs.declared.triple.Triple.{Triple}
use Rattle.bale_items.specs.Bits.{twos_complement, from_twos_complement}
use Rattle.round_program.specs.Laws.{is_item}

-- A cell as an item: its row, its column and the word of its value.
-- cell_item (1,0,4) = (1,0,4); cell_item (0,2,-7) = (0,2,2^64 - 7)
abbrev pub cell_item : Triple → Item
cell_item t = record { a = t.i; b = t.j; c = twos_complement t.v }

-- The cell that an item stands for.
abbrev pub item_cell : Item → Triple
item_cell x = record { i = x.a; j = x.b; v = from_twos_complement x.c }

-- The owner of a row may be sent cells of it.
abbrev pub may_cell : ℕ → ℕ → ℕ → ℕ → ℕ → Item → Bool
may_cell rows cols ranks to from x =
    nat_lt from ranks && nat_lt x.a rows && nat_lt x.b cols && x.a % ranks == to && is_item x
