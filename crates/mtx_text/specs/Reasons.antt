-- What is printed of a bad line.
use Rattle.std.specs.Prelude.{ℕ, List, codes}
use Rattle.mtx_text.specs.declared.refusal.Reason.{Reason}
use Rattle.mtx_text.specs.declared.refusal.Reason.TheVariants.{Banner, Unsupported, SizeLine, TooLarge, EntryLine}
use Rattle.mtx_text.specs.declared.refusal.Reason.TheVariants.{OutOfRange, Value, Duplicate, TooFew, TooMany, TooLong}
use Rattle.mtx_text.specs.declared.refusal.Reason.TheVariants.{NotSquare, Diagonal}

-- A reason in words.
unfoldable pub reason_text : Reason → List ℕ
reason_text Banner = codes "bad banner"
reason_text Unsupported = codes "unsupported"
reason_text SizeLine = codes "bad size line"
reason_text TooLarge = codes "too large"
reason_text EntryLine = codes "bad entry line"
reason_text OutOfRange = codes "index out of range"
reason_text Value = codes "bad value"
reason_text Duplicate = codes "duplicate entry"
reason_text TooFew = codes "too few entries"
reason_text TooMany = codes "too many entries"
reason_text TooLong = codes "too long"
reason_text NotSquare = codes "not square"
reason_text Diagonal = codes "diagonal entry"
