-- What all ranks emit in a round of a canonical run.
use Rattle.std.specs.Prelude.{◌≡◌, ℕ, List, map}
use Rattle.std.specs.List.{range_with_len}
use Rattle.bale_items.specs.declared.Item.{Item}
use Rattle.round_program.specs.Rules.{Rules}
use Rattle.round_program.specs.Canonical.{states_at}

-- The item (a,b,c).
abbrev pub item : ℕ → ℕ → ℕ → Item
item a b c = record { a = a; b = b; c = c }

-- As round n of a run begins there are so many ranks, and each emits its line: its items in order,
-- each with the rank that it goes to.
-- what rank r emits in round n = line r, for r = 0, .., ranks - 1
-- If rank 0 emits x to 1 and then y to 0, and rank 1 nothing, line 0 is (1,x), (0,y) and line 1
-- is empty.
abbrev pub Emit : {S : Type 0} → Rules S → List S → ℕ → ℕ → (ℕ → List (ℕ × Item)) → Type 0
Emit R starts n ranks line = map R.emissions (states_at R starts n) ≡ map line (range_with_len 0 ranks)
