-- What a batch of items, each with its sender, makes of a rank's counts and sum of numbers.
use Rattle.std.specs.Prelude.{ℕ, ◌+◌, ◌%◌, ◌^◌, ◌&&◌, nat_lt, Bool, List, if◌then◌else◌}
use Rattle.std.specs.List.{fold}
use Rattle.bale_items.specs.declared.Item.{Item}
use Rattle.round_program.specs.Laws.{is_item}
use Rattle.round_examples.specs.Traffics.{traffic_raised}

-- An item is from one of so many ranks, and for a cell.
abbrev pub is_for_it : ℕ → ℕ → Item → Bool
is_for_it ranks from x = nat_lt from ranks && nat_lt x.a 1024 && is_item x

-- The counts of a rank after items came; what is for no cell, or from no rank, is dropped.
-- all_counted of 2 ranks: of (0,(7,1,0)), (5,(7,1,0)) the first alone, 1 more for cell 7
abbrev pub all_counted : ℕ → List ℕ → List (ℕ × Item) → List ℕ
all_counted ranks counts came =
    fold (λ l e. if is_for_it ranks e.0 e.1 then traffic_raised l e.1 else l) counts came

-- The sum of the numbers of the items that came, modulo 2^64, in the same way.
abbrev pub all_checked : ℕ → ℕ → List (ℕ × Item) → ℕ
all_checked ranks check came =
    fold (λ n e. if is_for_it ranks e.0 e.1 then (n + e.1.c) % 2 ^ 64 else n) check came
