-- The workers of a run, as the calling thread sees them.
use Rattle.std.specs.Prelude.{◌≡◌, ⊤, ℕ, Bool, true, false, List}
use Rattle.std.specs.List.{list_all}
use Rattle.rank_crews.specs.declared.child.Child.{Child}
use Rattle.rank_crews.specs.declared.child.Child.TheVariants.{There, Here}
use Rattle.rank_crews.specs.Runs.{AllRan, MakesOneTurn}

-- A worker's ranks before their first turn.
abbrev pub first_of : {A J : Type 0} → Child A J → List A
first_of (There worker) = worker.was.value
first_of (Here kept) = kept.first

-- Whether a worker is still running on its thread.
abbrev pub is_there : {A J : Type 0} → Child A J → Bool
is_there (There worker) = true
is_there (Here kept) = false

-- A worker's ranks are back, and the run of each is over.
abbrev pub HasEnded : {A J : Type 0} → (A → Bool) → Child A J → Type 0
HasEnded over (There worker) = ⊥
HasEnded over (Here kept) = list_all over kept.now ≡ true

-- A worker is on its thread, or its ranks are as they were given.
abbrev pub HasUnturnedRanks : {A J : Type 0} → Child A J → Type 0
HasUnturnedRanks (There worker) = ⊤
HasUnturnedRanks (Here kept) = kept.now ≡ kept.first

-- A sweep of the calling thread: of each worker whose ranks are back, each rank whose run wasn't
-- over made one turn.
abbrev pub IsSwept : {A J : Type 0} → (A → Bool) → (A → ℕ) → Child A J → Child A J → Type 0
IsSwept over turns (There x) (There y) = ⊤
IsSwept over turns (Here x) (Here y) = AllRan (MakesOneTurn over turns) x.now y.now
IsSwept over turns (There x) (Here y) = ⊥
IsSwept over turns (Here x) (There y) = ⊥
