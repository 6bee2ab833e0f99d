-- What was appended to an output buffer, whether the sink has it yet or not.
use Rattle.std.specs.Prelude.{◌≡◌, ◌<◌, ℕ, ◌+◌, ◌==◌, ◌%◌, if◌then◌else◌, List, length, Option, Result, OnOk, OnErr}
use Rattle.std.specs.Prelude.{IsOk, take}
use Rattle.bale_types.specs.Stream.{taken_with, CountsFaults, IsTakenPrefix}
use Rattle.bale_types.specs.declared.out.Out.{Out}

-- all that was appended: what the sink has taken, and then what the buffer holds
-- appended taken out = after (taken of its sink) (the first len bytes of its buffer)
-- a sink that has taken `1 1` and a buffer with `2`: `1 1 2`
abbrev pub appended_bytes : {K : Type 0} → (K → Option (List ℕ)) → Out K → Option (List ℕ)
appended_bytes taken out = taken_with (taken out.sink.now) (take out.len out.buffer)

-- how many bytes wait in the buffer, if so many waited and more came: those that are over whole
-- buffers of 16,384; if none came, as many as before
-- left_over waited more = (waited + more) % 16_384
-- 16,383 and 1 more leave none, and 16,300 and 100 more leave 16
abbrev pub left_over : ℕ → ℕ → ℕ
left_over waited more = if more == 0 then waited else (waited + more) % 16_384

-- what a call on an output buffer does to its sink, by its answer
-- counts: how the sink's count of faults goes with the answer
-- grows: what the sink took stays taken
-- same_sink: the sink is the one that it was
pub record HandsOn {K T E : Type 0} (taken : K → Option (List ℕ)) (faults : K → ℕ) (old new : Out K)
    (result : Result T E) : Type 0 where
  pub counts : CountsFaults (faults old.sink.now) (faults new.sink.now) result
  pub grows : IsTakenPrefix (taken old.sink.now) (taken new.sink.now)
  pub same_sink : new.sink.ghost_name ≡ old.sink.ghost_name

-- a call writes these bytes behind all that was appended
-- ok: all of them, if it answers Ok
-- err: if it fails, the sink has a prefix of what should have come
-- sink: what it does to the sink
pub record Writes {K T E : Type 0} (taken : K → Option (List ℕ)) (faults : K → ℕ) (bytes : List ℕ) (old new : Out K)
    (result : Result T E) : Type 0 where
  pub ok : OnOk result (appended_bytes taken new ≡ taken_with (appended_bytes taken old) bytes)
  pub err : OnErr result (IsTakenPrefix (taken new.sink.now) (taken_with (appended_bytes taken old) bytes))
  pub sink : HandsOn taken faults old new result

-- the same of a call of the buffer itself, which also tells what still waits in it
-- written: it writes them
-- kept: if it fails, what was appended before is a prefix of what is now
-- part: and that is a prefix of what should have come
-- gathers: while all of them have room in the buffer, the sink isn't touched
-- no_failure: and nothing fails
-- waits: those that are over whole buffers wait
pub record Appends {K T E : Type 0} (taken : K → Option (List ℕ)) (faults : K → ℕ) (bytes : List ℕ) (old new : Out K)
    (result : Result T E) : Type 0 where
  pub written : Writes taken faults bytes old new result
  pub kept : OnErr result (IsTakenPrefix (appended_bytes taken old) (appended_bytes taken new))
  pub part : OnErr result (IsTakenPrefix (appended_bytes taken new) (taken_with (appended_bytes taken old) bytes))
  pub gathers : old.len + length bytes < 16_384 → new.sink.now ≡ old.sink.now
  pub no_failure : old.len + length bytes < 16_384 → IsOk result
  pub waits : OnOk result (new.len ≡ left_over old.len (length bytes))
