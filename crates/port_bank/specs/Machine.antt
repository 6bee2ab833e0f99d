-- The exchange machine: what conveyors do, seen as two lists for each epoch and ordered pair of
-- ranks. It knows no parcels, no hops and no tags.
use Rattle.std.specs.Prelude.{◌≡◌, ◌≢◌, ℕ, ◌+◌, ◌-◌, ◌<◌, ◌≤◌, ◌==◌, ◌&&◌, nat_lt, ◌⊎◌, ⊤, Bool, true, false, List, []}
use Rattle.std.specs.Prelude.{if◌then◌else◌}
use Rattle.std.specs.Prelude.{◌∷◌, ◌++◌, length, take, slice_get, Option, Some, None, IsSome}
use Rattle.bale_items.specs.declared.item.Item.{Item}
use Rattle.list_laws.specs.Lists.{IsPrefix}

-- A list of items for each epoch and rank.
abbrev pub ItemLists : Type 0
ItemLists = ℕ → ℕ → List Item

-- Lists for so many ranks: those of other numbers are empty.
abbrev pub for_ranks : ℕ → ItemLists → ItemLists
for_ranks n lists = λ e r. if nat_lt r n then lists e r else []

-- One rank's part of a state: its epoch; whether it is done, and whether it is complete, in that
-- epoch; from which rank it pulled in its latest step, if that was a Pull; and what it pushed
-- toward each rank and pulled of each.
pub record Part : Type 0 where
  pub epoch : ℕ
  pub done : Bool
  pub complete : Bool
  pub latest : Option ℕ
  pub pushed : ItemLists
  pub pulled : ItemLists

-- A state: the parts of all ranks.
abbrev pub Ranks : Type 0
Ranks = ℕ → Part

-- What a rank may do: push an item toward a rank, pull an item of a rank, take its latest Pull
-- back, say that it is done, complete its epoch, begin the next one, or nothing.
pub data Step : Type 0 where
  Push : ℕ → Item → Step
  Pull : ℕ → Item → Step
  Unpull : Step
  Done : Step
  Complete : Step
  Reset : Step
  Idle : Step

-- The lists with one more item at an epoch and a rank.
abbrev pub with_item : ItemLists → ℕ → ℕ → Item → ItemLists
with_item lists e r x = λ f q. if (f == e) && (q == r) then lists f q ++ x ∷ [] else lists f q

-- The lists without the last item at an epoch and a rank.
abbrev pub without_last : ItemLists → ℕ → ℕ → ItemLists
without_last lists e r = λ f q. if (f == e) && (q == r) then take (length (lists f q) - 1) (lists f q) else lists f q

-- What was pulled before the latest step, if that was a Pull.
abbrev pub taken_back : ItemLists → ℕ → Option ℕ → ItemLists
taken_back lists e None = lists
taken_back lists e (Some s) = without_last lists e s

-- What a step makes of its rank's part.
-- At epoch 2, Push 3 x appends x to what was pushed toward rank 3 in epoch 2.
abbrev pub after : Step → Part → Part
after (Push d x) p = record p { latest = None; pushed = with_item p.pushed p.epoch d x }
after (Pull s x) p = record p { latest = Some s; pulled = with_item p.pulled p.epoch s x }
after Unpull p = record p { latest = None; pulled = taken_back p.pulled p.epoch p.latest }
after Done p = record p { latest = None; done = true }
after Complete p = record p { latest = None; complete = true }
after Reset p = record p { latest = None; epoch = p.epoch + 1; done = false; complete = false }
after Idle p = record p { latest = None }

-- What a rank must be for a step, by its own part: not done for a Push, just after a Pull for an
-- Unpull, complete for a Reset.
abbrev pub MayBy : Step → Part → Type 0
MayBy (Push d x) p = p.done ≡ false
MayBy (Pull s x) p = ⊤
MayBy Unpull p = IsSome p.latest
MayBy Done p = ⊤
MayBy Complete p = ⊤
MayBy Reset p = p.complete ≡ true
MayBy Idle p = ⊤

-- The other rank that a step names is one of so many.
abbrev pub NamesRank : ℕ → Step → Type 0
NamesRank ranks (Push d x) = d < ranks
NamesRank ranks (Pull s x) = s < ranks
NamesRank ranks Unpull = ⊤
NamesRank ranks Done = ⊤
NamesRank ranks Complete = ⊤
NamesRank ranks Reset = ⊤
NamesRank ranks Idle = ⊤

-- A step of one rank's own part.
pub record IsOwnStep (step : Step) (old new : Part) : Type 0 where
  pub may : MayBy step old
  pub is : new ≡ after step old

-- Rank q is through with an epoch: it is done in it, or in a later one.
abbrev pub IsThrough : ℕ → Part → Type 0
IsThrough e part = ((part.epoch ≡ e) × (part.done ≡ true)) ⊎ (e < part.epoch)

-- What rank r may complete: every rank is through with its epoch, and it pulled all that they
-- pushed toward it.
pub record MayComplete (ranks r : ℕ) (state : Ranks) : Type 0 where
  pub through : (q : ℕ) → q < ranks → IsThrough (state r).epoch (state q)
  pub all : (q : ℕ) → q < ranks → (state r).pulled (state r).epoch q ≡ (state q).pushed (state r).epoch r

-- What all ranks must be for a step: a Pull takes the item that its sender pushed at the next
-- place.
abbrev pub Allows : ℕ → ℕ → Step → Ranks → Type 0
Allows ranks r (Push d x) state = ⊤
Allows ranks r (Pull s x) state =
    slice_get ((state s).pushed (state r).epoch r) (length ((state r).pulled (state r).epoch s)) ≡ Some x
Allows ranks r Unpull state = ⊤
Allows ranks r Done state = ⊤
Allows ranks r Complete state = MayComplete ranks r state
Allows ranks r Reset state = ⊤
Allows ranks r Idle state = ⊤

-- A step of the machine: one rank makes it, and the others stay.
pub record IsStep (ranks r : ℕ) (step : Step) (old new : Ranks) : Type 0 where
  pub allowed : Allows ranks r step old
  pub own : IsOwnStep step (old r) (new r)
  pub others : (q : ℕ) → q < ranks → q ≢ r → new q ≡ old q

-- How many epochs a rank has completed, and in how many it was done.
-- In epoch 2, done and not complete, they are 2 and 3.
abbrev pub completed_of : Part → ℕ
completed_of p = if p.complete then p.epoch + 1 else p.epoch

abbrev pub done_of : Part → ℕ
done_of p = if p.done then p.epoch + 1 else p.epoch

-- What the ranks know of one another's epochs.
-- begins: what a rank pulled of another is a prefix of what that one pushed toward it.
-- all_done: in each epoch that some rank has completed, every rank was done.
-- whole: in each epoch that a rank has completed itself, it pulled all that the others pushed
-- toward it.
pub record EpochsClose (ranks : ℕ) (state : Ranks) : Type 0 where
  pub begins : (r s e : ℕ) → r < ranks → s < ranks → IsPrefix ((state r).pulled e s) ((state s).pushed e r)
  pub all_done : (r s : ℕ) → r < ranks → s < ranks → completed_of (state r) ≤ done_of (state s)
  pub whole : (r s e : ℕ) → r < ranks → s < ranks → e < completed_of (state r)
      → (state r).pulled e s ≡ (state s).pushed e r
