-- What a reader answers, besides the definition that it is held to. Want of memory is free.
use Rattle.std.specs.Prelude.{◌≡◌, Result, Ok, Err}
use Rattle.mtx_text.specs.declared.refusal.BadLine.{BadLine}
use Rattle.mtx_text.specs.declared.refusal.ParseFault.{ParseFault}
use Rattle.mtx_text.specs.declared.refusal.ParseFault.TheVariants as fault
use Rattle.mtx_text.specs.declared.refusal.ReadFault.{ReadFault}
use Rattle.mtx_text.specs.declared.refusal.ReadFault.TheVariants as stop
use Rattle.mtx_text.specs.Sparse.{Sparse}

-- The value seen by `view` is what was to be read, or the refusal is the one that was to come.
--   Gives view (Ok x) read = read is Ok (view x); Gives view (Err (Bad b)) read = read is Err b
--   after NoMemory nothing is said.
abbrev pub Gives : {X Y : Type 0} → (X → Y) → Result X ParseFault → Result Y BadLine → Type 0
Gives view (Ok x) read = read ≡ Ok (view x)
Gives view (Err (fault.Bad b)) read = read ≡ Err b
Gives view (Err fault.NoMemory) read = Unit {0}

-- The same for a reader of a source. After Source and after NoMemory this says nothing of the text.
abbrev pub ReadGives : Result Sparse ReadFault → Result Sparse BadLine → Type 0
ReadGives (Ok m) read = read ≡ Ok m
ReadGives (Err (stop.Bad b)) read = read ≡ Err b
ReadGives (Err stop.Source) read = Unit {0}
ReadGives (Err stop.NoMemory) read = Unit {0}

-- A fact, if the text was read as far as it counts: the answer is a matrix or a bad line.
abbrev pub OnDecided : Result Sparse ReadFault → Type 0 → Type 0
OnDecided (Ok m) P = P
OnDecided (Err (stop.Bad b)) P = P
OnDecided (Err stop.Source) P = Unit {0}
OnDecided (Err stop.NoMemory) P = Unit {0}
