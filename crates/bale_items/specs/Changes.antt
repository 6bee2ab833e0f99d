-- What a call that may fail makes of a value.
use Rattle.std.specs.Prelude.{◌≡◌, Result, OnOk, OnErr}

-- all or nothing
-- ok: if it answers Ok, the value has become the one that is made
-- err: if it fails, the value is as before
-- a list to which `2` is added: `1 2` of `1`, or `1` still
pub record AllOrNothing {A T E : Type 0} (made old new : A) (result : Result T E) : Type 0 where
  pub ok : OnOk result (new ≡ made)
  pub err : OnErr result (new ≡ old)
