-- The answer of topo as text: for each position its row and its column.
use Rattle.std.specs.Prelude.{ℕ, List, [], ◌∷◌, ◌++◌, ◌+◌, decimal}
use Rattle.std.specs.List.{flat_map, enumerate_from}
use Rattle.app_topo.specs.Levels.{Claim}

-- The line of a position: its number, its row and its column, from 1, with one blank between.
-- topo_line 1 (2, 2) = "2 3 3\n"
abbrev pub topo_line : ℕ → Claim → List ℕ
topo_line x c = decimal (x + 1) ++ 32 ∷ [] ++ decimal (c.0 + 1) ++ 32 ∷ [] ++ decimal (c.1 + 1) ++ 10 ∷ []

-- The lines of an order, position by position.
-- topo_lines (0,0), (2,2), (1,1) = "1 1 1\n2 3 3\n3 2 2\n"
abbrev pub topo_lines : List Claim → List ℕ
topo_lines order = flat_map (λ e. topo_line e.0 e.1) (enumerate_from 0 order)
