-- Which numbers are no grid, and why.
use Rattle.std.specs.Prelude.{ℕ, ◌==◌, nat_lt, ◌||◌, if◌then◌else◌, List, length, Option, Some, None}
use Rattle.std.specs.List.{list_any}
use Rattle.route_tensor.specs.declared.grid.GridError.{GridError}
use Rattle.route_tensor.specs.declared.grid.GridError.TheVariants.{Order, ZeroDim, TooManyRanks}
use Rattle.route_tensor.specs.declared.by_hops.TheConstants.{MOST_HOPS}
use Rattle.route_tensor.specs.Grid.{ranks}

-- Why these numbers are no grid; the first that fits, and None if they are one.
-- not one to MOST_HOPS numbers; a zero among them; a product over 64
-- 9x0 is refused for its zero, 9x8 for its product.
unfoldable pub refusal : List ℕ → Option GridError
refusal dims =
    if ((length dims == 0) || nat_lt MOST_HOPS (length dims)) then Some Order
    else if list_any (λ n. n == 0) dims then Some ZeroDim
    else if nat_lt 64 (ranks dims) then Some TooManyRanks
    else None
