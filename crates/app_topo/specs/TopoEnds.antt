-- The claims that the ranks have in the end, as cells by level and row.
use Rattle.std.specs.Prelude.{ℕ}
use Rattle.bale_items.specs.declared.triple.Triple.{Triple}
use Rattle.bale_items.specs.Bits.{twos_complement, from_twos_complement}
use Rattle.app_topo.specs.declared.placed.Placed.{Placed}

-- a row that has claimed, as the cell of its level and itself, with the column as a value
abbrev pub cell_of_level : Placed → Triple
cell_of_level q = record { i = q.level; j = q.row; v = from_twos_complement q.column }

-- and back, as the row and its column
abbrev pub cell_place : Triple → ℕ × ℕ
cell_place u = (u.j, twos_complement u.v)
