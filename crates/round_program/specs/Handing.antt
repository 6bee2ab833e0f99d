-- Handing over a list of items, each with its receiver, from a number on.
use Rattle.std.specs.Prelude.{ℕ, ◌-◌, ◌≤◌, Bool, List, drop, length}
use Rattle.std.specs.List.{All}
use Rattle.bale_items.specs.declared.item.Item.{Item}
use Rattle.round_program.specs.Emissions.{HandsOver}

-- Those from number `from` on may be handed over: `May` says to which receivers.
pub record MayHandOver (May : ℕ → Type 0) (items : List (ℕ × Item)) (from : ℕ) : Type 0 where
  pub from_within : from ≤ length items
  pub may : All (λ e. May e.0) (drop from items)

-- Those from number `from` up to number `to` were handed over, and then none was left, or the next
-- one was refused.
pub record HandsUpTo {K : Type 0} (Hands : K → ℕ → Item → Bool → K → Type 0) (items : List (ℕ × Item)) (from to : ℕ)
    (old new : K) : Type 0 where
  pub forward : from ≤ to
  pub low : to ≤ length items
  pub hands : HandsOver Hands (drop from items) (to - from) old new
