-- Why a run ended without an answer: what is said of it, and the status.
use Rattle.std.specs.Prelude.{ℕ, List, [], ◌∷◌, ◌++◌, codes, decimal}
use Rattle.mtx_text.specs.declared.refusal.BadLine.{BadLine}
use Rattle.mtx_text.specs.Reasons.{reason_text}
use Rattle.bale_subjects.specs.declared.refusal.BadText.{BadText}
use Rattle.bale_subjects.specs.declared.refusal.BadText.TheVariants as bad
use Rattle.bale_subjects.specs.declared.refusal.Refusal.{Refusal}
use Rattle.bale_subjects.specs.declared.refusal.Refusal.TheVariants as refusal
use Rattle.bale_subjects.specs.declared.unfit.Unfit.{Unfit}
use Rattle.bale_subjects.specs.declared.unfit.Unfit.TheVariants as unfit

-- What is said of a bad line: its number, and why it is bad.
-- bad_line_text (line 4, too few entries) = "bale: line 4: too few entries\n"
unfoldable pub bad_line_text : BadLine → List ℕ
bad_line_text b = codes "bale: line " ++ decimal b.line ++ codes ": " ++ reason_text b.reason ++ 10 ∷ []

-- What is said of a text that isn't what a command is asked of.
-- bad_text (LineTooLong 1) = "bale: line 1: line too long\n"
unfoldable pub bad_text : BadText → List ℕ
bad_text (bad.NoMatrix b) = bad_line_text b
bad_text (bad.TooLong n) = codes "bale: line " ++ decimal n ++ codes ": too long\n"
bad_text (bad.LineTooLong n) = codes "bale: line " ++ decimal n ++ codes ": line too long\n"

-- What is said of a command that doesn't fit its subject.
-- unfit_text Source = "bale: unfit: source out of range\n"
unfoldable pub unfit_text : Unfit → List ℕ
unfit_text unfit.ExstackGrid = codes "bale: unfit: exstack needs a grid of one number\n"
unfit_text unfit.NotSquare = codes "bale: unfit: matrix is not square\n"
unfit_text unfit.NegativeWeight = codes "bale: unfit: negative weight\n"
unfit_text unfit.Source = codes "bale: unfit: source out of range\n"
unfit_text unfit.SerialSize = codes "bale: unfit: too large for the serial drive\n"
unfit_text unfit.DeltaRows = codes "bale: unfit: too many rows for delta on the serial drive\n"
unfit_text unfit.RowPermutation = codes "bale: unfit: row permutation\n"
unfit_text unfit.ColumnPermutation = codes "bale: unfit: column permutation\n"

-- What is said on err of a run that ended without an answer.
unfoldable pub refusal_text : Refusal → List ℕ
refusal_text refusal.Usage = codes "bale: usage\n"
refusal_text refusal.ReadFault = codes "bale: read fault\n"
refusal_text (refusal.BadText b) = bad_text b
refusal_text (refusal.Unfit u) = unfit_text u
refusal_text refusal.WriteFault = codes "bale: write fault\n"
refusal_text refusal.NoMemory = codes "bale: no memory\n"

-- The exit status of a refusal.
unfoldable pub status_of : Refusal → ℕ
status_of refusal.Usage = 2
status_of refusal.ReadFault = 3
status_of (refusal.BadText b) = 5
status_of (refusal.Unfit u) = 6
status_of refusal.WriteFault = 4
status_of refusal.NoMemory = 7

-- A refusal that came after the text was read as far as it counts: a bad text, an unfit command, or
-- a failed write.
abbrev pub IsOfText : Refusal → Type 0
IsOfText refusal.Usage = ⊥
IsOfText refusal.ReadFault = ⊥
IsOfText (refusal.BadText b) = Unit {0}
IsOfText (refusal.Unfit u) = Unit {0}
IsOfText refusal.WriteFault = Unit {0}
IsOfText refusal.NoMemory = ⊥
