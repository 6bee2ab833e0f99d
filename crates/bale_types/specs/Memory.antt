-- Sources and sinks in memory, as their callers see them: what they hold, how much a call moves at
-- most, and which calls fail.
use Rattle.std.specs.Prelude.{ℕ, List}

-- a source in memory: what it still gives, the most that one call gives, the numbers of the calls
-- that fail, counted from 1, and how many calls were made and how many of them failed
-- Feed = left, most, fails, calls, faults
-- over `1 1 2`, two at a time, failing at call 2, before its first call: `1 1 2`, 2, 2, 0, 0
pub record Feed : Type 0 where
  pub left : List ℕ
  pub most : ℕ
  pub fails : List ℕ
  pub calls : ℕ
  pub faults : ℕ

-- a sink in memory: what it took, how many bytes it can hold, and the rest as in a Feed
-- Store = taken, room, most, fails, calls, faults
-- for 8 bytes, five at a time, failing at call 2, before its first call: [], 8, 5, 2, 0, 0
pub record Store : Type 0 where
  pub taken : List ℕ
  pub room : ℕ
  pub most : ℕ
  pub fails : List ℕ
  pub calls : ℕ
  pub faults : ℕ
