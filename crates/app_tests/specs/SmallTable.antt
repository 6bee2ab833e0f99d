-- A run of two ranks over three columns: rank 0 names the columns 0, 1, 1, and rank 1 the columns
-- 1, 2.
use Rattle.std.specs.Prelude.{◌≡◌, List, [], ◌∷◌, map}
use Rattle.round_program.specs.Canonical.{states_at, HasRounds}
use Rattle.round_examples.specs.Counts.{CountState, count_rules}

abbrev pub small_table : List CountState
small_table =
    record { rank = 0; ranks = 2; round = 0; names = 0 ∷ 1 ∷ 1 ∷ []; counts = 0 ∷ 0 ∷ 0 ∷ [] }
    ∷ record { rank = 1; ranks = 2; round = 0; names = 1 ∷ 2 ∷ []; counts = 0 ∷ 0 ∷ 0 ∷ [] }
    ∷ []

-- The canonical run has one round. Rank 0 counts its columns 0 and 2 once each, and rank 1 its
-- column 1 three times.
pub record SmallCount : Type 0 where
  pub one_round : HasRounds count_rules small_table 1
  pub counts : map (λ s. s.counts) (states_at count_rules small_table 1) ≡ (1 ∷ 0 ∷ 1 ∷ []) ∷ (0 ∷ 3 ∷ 0 ∷ []) ∷ []
