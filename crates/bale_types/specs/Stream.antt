-- What a source has still to give, what a sink has taken, and what one call moves between them and
-- a buffer. If an object doesn't tell its bytes, they are None before and after each call.
use Rattle.std.specs.Prelude.{◌≡◌, ◌<◌, ◌≤◌, ◌-◌, ℕ, zero, suc, ◌+◌, List, [], ◌++◌, Option, None, Some}
use Rattle.std.specs.Prelude.{Result, Ok, Err, OnErr, OnOk, IfOk, IsSome, length, take, drop}
use Rattle.bale_items.specs.Counters.{RoseOrFull}

-- what is taken once these bytes were appended
-- after (Some taken) bytes = Some (taken ++ bytes)
-- `1 1` and then `2` makes `1 1 2`
abbrev pub taken_with : Option (List ℕ) → List ℕ → Option (List ℕ)
taken_with None bytes = None
taken_with (Some taken) bytes = Some (taken ++ bytes)

-- what was to come, if these bytes came and that is still left
-- before bytes (Some left) = Some (bytes ++ left)
-- `1 1` came and `2` is left, so `1 1 2` was to come
abbrev pub before : List ℕ → Option (List ℕ) → Option (List ℕ)
before bytes None = None
before bytes (Some left) = Some (bytes ++ left)

-- the bytes of the buffer that a call moved
-- moved (Ok count) buffer = take count buffer, and moved (Err e) buffer = []
-- Ok 2 over `1 1 2` moved `1 1`, and a call that failed moved nothing
abbrev pub moved_bytes : {E : Type 0} → Result ℕ E → List ℕ → List ℕ
moved_bytes (Ok count) buffer = take count buffer
moved_bytes (Err e) buffer = []

-- what a write moved, if none that moved nothing is counted as one
-- some_moved (Some count) = Some count, if 0 < count
-- Some 2 of Some 2, and None of Some 0
abbrev pub some_moved : Option ℕ → Option ℕ
some_moved None = None
some_moved (Some zero) = None
some_moved (Some (suc n)) = Some (suc n)

-- a failure has its cause outside: the object counted it
-- HasCause old new result = RoseOrFull old new, if the result is an Err
-- Err from 3 to 4 has its cause, and Err from 3 to 3 has none
abbrev pub HasCause : {T E : Type 0} → ℕ → ℕ → Result T E → Type 0
HasCause old new result = OnErr result (RoseOrFull old new)

-- what a call does to an object's count of faults, by its answer
-- cause: a failure has its cause: the object counted it
-- no_fault: a call that answers Ok passed over no fault
-- never_falls: the count never falls
-- Err from 3 to 4; Ok from 3 to 3
pub record CountsFaults {T E : Type 0} (old new : ℕ) (result : Result T E) : Type 0 where
  pub cause : HasCause old new result
  pub no_fault : OnOk result (new ≡ old)
  pub never_falls : old ≤ new

-- where a call blames an object, and if it doesn't: the object's count of faults tells
-- cause: what is blamed on it, it counted
-- no_fault: what isn't, it didn't
-- never_falls: the count never falls
-- a read fault from 3 to 4; a bad line from 3 to 3
pub record Blames (blamed : Type 0) (old new : ℕ) : Type 0 where
  pub cause : blamed → RoseOrFull old new
  pub no_fault : ¬ blamed → new ≡ old
  pub never_falls : old ≤ new

-- a call that succeeds moves some of so many bytes
-- some: at least one
-- bound: no more than there are
-- of three bytes Ok 2, and not Ok 0
pub record MovesSome {E : Type 0} (all : ℕ) (result : Result ℕ E) : Type 0 where
  pub some : IfOk result (λ count. 0 < count)
  pub bound : IfOk result (λ count. count ≤ all)

-- the sink has taken a prefix of all that should have come to it
-- IsTakenPrefix taken all = for some rest, after taken rest = all
-- `1 1` is a prefix of `1 1 2`
pub record IsTakenPrefix (taken all : Option (List ℕ)) : Type 0 where
  pub rest : List ℕ
  pub whole : taken_with taken rest ≡ all

-- what is left of a text, of which at most so many bytes were taken from the front
-- end: the rest ends the text
-- few: no more is missing
-- `2` is behind `1 1 2`, of which at most 5 bytes were taken
pub record IsBehind (limit : ℕ) (text rest : List ℕ) : Type 0 where
  pub end : rest ≡ drop (length text - length rest) text
  pub few : length text ≤ length rest + limit

-- a reader takes at most so many bytes of a source, if that tells them
-- behind: what is left follows what was taken
-- told: and the source still tells it
pub record TakesUpTo (limit : ℕ) (left left' : Option (List ℕ)) : Type 0 where
  pub behind : (text rest : List ℕ) → left ≡ Some text → left' ≡ Some rest → IsBehind limit text rest
  pub told : (text : List ℕ) → left ≡ Some text → IsSome left'
