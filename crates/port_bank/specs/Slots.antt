-- The numbers of slots that a link may have.
use Rattle.std.specs.Prelude.{ℕ, Bool, List, [], ◌∷◌, ◌==◌}
use Rattle.std.specs.List.{list_any}

abbrev pub slot_counts : List ℕ
slot_counts = 1 ∷ 2 ∷ 4 ∷ 8 ∷ []

-- Whether a link may have so many slots: it may have 4, and not 3 or 16.
abbrev pub is_slot_count : ℕ → Bool
is_slot_count n = list_any (λ count. count == n) slot_counts
