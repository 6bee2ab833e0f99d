-- What a batch of cells, each with its sender, makes of the cells of a rank.
use Rattle.std.specs.Prelude.{ℕ, List, if◌then◌else◌}
use Rattle.std.specs.List.{fold}
use Rattle.bale_items.specs.declared.Item.{Item}
use Rattle.bale_items.specs.declared.triple.Triple.{Triple}
use Rattle.mtx_text.specs.Cells.{with_value_raised}
use Rattle.app_permute.specs.declared.carried.RowOwner.{RowOwner}
use Rattle.app_permute.specs.Carried.{item_cell, may_cell}

-- One cell is taken in if the rank owns its row, and else dropped.
abbrev pub own_raised : RowOwner → List Triple → ℕ → Item → List Triple
own_raised owner cells from x =
    if may_cell owner.rows owner.cols owner.ranks owner.rank from x then with_value_raised (item_cell x) cells else cells

-- All of them, in order.
-- all_raised of rank 1 of 2: of (0,(3,0,7)), (0,(2,0,9)) the first alone
abbrev pub all_raised : RowOwner → List Triple → List (ℕ × Item) → List Triple
all_raised owner cells came = fold (λ l e. own_raised owner l e.0 e.1) cells came

-- A cell with its row and its column changed for one another, from the same sender.
-- (1,(3,0,7)) turned is (1,(0,3,7)).
abbrev pub turned_over : ℕ × Item → ℕ × Item
turned_over e = (e.0, record { a = e.1.b; b = e.1.a; c = e.1.c })
