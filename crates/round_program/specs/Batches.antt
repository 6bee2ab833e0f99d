-- What a rank makes of items that come.
use Rattle.std.specs.Prelude.{ℕ, List, if◌then◌else◌}
use Rattle.std.specs.List.{fold}
use Rattle.bale_items.specs.declared.item.Item.{Item}
use Rattle.round_program.specs.Rules.{Rules}
use Rattle.round_program.specs.Laws.{fits}

-- A state after one item came from a rank: it is absorbed if it fits, and else dropped.
abbrev pub taken_in : {S : Type 0} → Rules S → S → ℕ → Item → S
taken_in R s from x = if fits R s from x then R.absorbed s from x else s

-- A state after items came, in this order, each with its sender.
-- Of (1,x), (0,y), if y doesn't fit, it is R.absorbed s 1 x.
abbrev pub all_taken_in : {S : Type 0} → Rules S → S → List (ℕ × Item) → S
all_taken_in R s came = fold (λ t e. taken_in R t e.0 e.1) s came
