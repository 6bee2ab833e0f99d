-- The reasons of bad lines are short.
use Rattle.std.proofs.Common.{◌≤◌, length, lit≤}
use Rattle.mtx_text.specs.declared.refusal.Reason.{Reason}
use Rattle.mtx_text.specs.declared.refusal.Reason.TheVariants.{Banner, Unsupported, SizeLine, TooLarge, EntryLine, OutOfRange, Value, Duplicate, TooFew, TooMany, TooLong, NotSquare, Diagonal}
use Rattle.mtx_text.specs.Reasons.{reason_text}

pub reason_short : (r : Reason) → length (reason_text r) ≤ 18
unfolding reason_text
reason_short Banner = lit≤ tt
reason_short Unsupported = lit≤ tt
reason_short SizeLine = lit≤ tt
reason_short TooLarge = lit≤ tt
reason_short EntryLine = lit≤ tt
reason_short OutOfRange = lit≤ tt
reason_short Value = lit≤ tt
reason_short Duplicate = lit≤ tt
reason_short TooFew = lit≤ tt
reason_short TooMany = lit≤ tt
reason_short TooLong = lit≤ tt
reason_short NotSquare = lit≤ tt
reason_short Diagonal = lit≤ tt
