-- What it is to read something of the words.
use Rattle.std.specs.Prelude.{◌≡◌, ⊤, Option, Some, None, Result, Ok, Err}
use Rattle.bale_words.specs.declared.fault.WordsFault.{WordsFault}
use Rattle.bale_words.specs.declared.fault.WordsFault.TheVariants as fault

-- The answer is what is there to read; Usage comes if and only if nothing is; NoMemory is free.
-- Reads (Some 4) (Ok 4) and Reads None (Err Usage) hold, and Reads o (Err NoMemory) for each o.
abbrev pub Reads : {X : Type 0} → Option X → Result X WordsFault → Type 0
Reads there (Ok x) = there ≡ Some x
Reads there (Err fault.Usage) = there ≡ None
Reads there (Err fault.NoMemory) = ⊤
