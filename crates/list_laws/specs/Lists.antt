-- What holds at each place of a list; fronts of lists; functions that differ at one number.
use Rattle.std.specs.Prelude.{◌≡◌, ℕ, ◌<◌, ◌==◌, List, ◌++◌, length, slice_index_or, slice_set, if◌then◌else◌}

-- A fact of each place, counted from 0, and of the element that is there.
-- EachAt P xs is P 0 x0, P 1 x1, .. for the list x0, x1, ..
-- The list 0, 1, 2 has EachAt (λ k x. x ≡ k).
abbrev pub EachAt : {X : Type 0} → (ℕ → X → Type 0) → List X → Type 0
EachAt {X} P xs = (k : ℕ) (d : X) → k < length xs → P k (slice_index_or xs k d)

-- A list with one element changed by a function; d stands for an element past the end, if
-- nothing changes.
-- changed_at xs i d f is xs with f (xs at i) at i.
-- The list 5, 6, 7 changed at 1 by (λ v. v + 10) is 5, 16, 7.
abbrev pub changed_at : {X : Type 0} → List X → ℕ → X → (X → X) → List X
changed_at xs i d f = slice_set xs i (f (slice_index_or xs i d))

-- A list is a prefix of another.
-- whole = front ++ rest
-- [1, 2] is a prefix of [1, 2, 3], and every list of itself.
pub record IsPrefix {T : Type 0} (front whole : List T) : Type 0 where
  pub rest : List T
  pub is : whole ≡ front ++ rest

-- A list is the end of another.
-- [2, 3] ends [1, 2, 3].
pub record Ends {T : Type 0} (whole back : List T) : Type 0 where
  pub front : List T
  pub is : whole ≡ front ++ back

-- A function of a number with another value at l.
-- changed f l x is x at l, and f elsewhere.
abbrev pub changed : {X : Type 0} → (ℕ → X) → ℕ → X → ℕ → X
changed f l x = λ m. if m == l then x else f m
