-- Which ranks are in which crew.
use Rattle.std.specs.Prelude.{◌≡◌, ℕ, suc, ◌%◌, ◌==◌, Bool, true, List, [], ◌∷◌, ◌++◌, length, if◌then◌else◌}
use Rattle.std.specs.List.{list_all}
use Rattle.list_laws.specs.Lists.{EachAt}
use Rattle.rank_crews.specs.Runs.{AllRan}

-- The ranks of crew k of `count`, among the ranks from number r on: those whose number is k modulo
-- `count`. The last of the list has the lowest number, and is turned first.
-- Of the ranks 0 to 4 in two crews, crew 1 has 3 and 1.
abbrev pub crew_of : {S : Type 0} → ℕ → ℕ → ℕ → List S → List S
crew_of count k r [] = []
crew_of count k r (x ∷ xs) = crew_of count k (suc r) xs ++ (if r % count == k then x ∷ [] else [])

-- The ranks from number r on were dealt to `count` crews.
pub record AreDealt {S : Type 0} (count r : ℕ) (ranks : List S) (crews : List (List S)) : Type 0 where
  pub all : length crews ≡ count
  pub each : EachAt (λ k c. c ≡ crew_of count k r ranks) crews

-- They were then turned until their runs were over.
pub record HaveRun {S : Type 0} (ran : S → S → Type 0) (over : S → Bool) (count r : ℕ) (ranks : List S)
    (crews : List (List S)) : Type 0 where
  pub all : length crews ≡ count
  pub each : EachAt (λ k c. AllRan ran (crew_of count k r ranks) c × (list_all over c ≡ true)) crews
