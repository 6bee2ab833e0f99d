-- Which parcel of a rank is lent.
use Rattle.std.specs.Prelude.{ℕ}
use Rattle.item_buffer.specs.Contents.{Contents, blank}
use Rattle.hop_core.specs.declared.loan.Loan.{Loan}
use Rattle.hop_core.specs.declared.loan.Loan.TheVariants as loan

-- What became of a rank's spare parcel.
-- Nothing: it is at hand, and nothing is lent.
-- ToSend: it is in the place of the open parcel toward a neighbour, which is lent with these
-- contents.
-- ToFill: it is in the place of the inbox of a neighbour, which is lent empty.
-- Given: it was given away for good, so that nothing can be lent.
pub data Lent : Type 0 where
  Nothing : Lent
  ToSend : ℕ → Contents → Lent
  ToFill : ℕ → Lent
  Given : Lent

-- The same, as the code stores it: the mark of an open parcel that is lent is beside its contents.
abbrev pub lent_by : {cap : ℕ} → Loan cap → Lent
lent_by (loan.Nothing parcel) = Nothing
lent_by (loan.ToSend number last parcel) = ToSend number (record parcel.value { last = last })
lent_by (loan.ToFill number) = ToFill number
lent_by loan.Given = Given

-- The open parcel that is lent, with its contents when it was lent.
abbrev pub lent_parcel : Lent → Contents
lent_parcel Nothing = blank 0
lent_parcel (ToSend number parcel) = parcel
lent_parcel (ToFill number) = blank 0
lent_parcel Given = blank 0
