-- What topo answers of an order, or of none.
use Rattle.std.specs.Prelude.{ℕ, List, Option, None, Some, codes}
use Rattle.app_topo.specs.Levels.{Claim}
use Rattle.app_topo.specs.TopoLines.{topo_lines}

-- 1 if no order exists.
abbrev pub order_status : Option (List Claim) → ℕ
order_status None = 1
order_status (Some order) = 0

-- The lines of the order, or "not triangular\n": no order of rows and columns makes the matrix
-- upper triangular with a full diagonal.
abbrev pub order_text : Option (List Claim) → List ℕ
order_text None = codes "not triangular\n"
order_text (Some order) = topo_lines order
