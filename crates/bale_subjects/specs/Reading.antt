-- What it is to have read what a command is asked of.
use Rattle.std.specs.Prelude.{◌≡◌, ℕ, Bool, true, false, not, List, Option, None, Some, is_some, Result, Ok, Err}
use Rattle.bale_words.specs.declared.command.Command.{Command}
use Rattle.bale_words.specs.declared.command.Generated.{Generated}
use Rattle.bale_subjects.specs.declared.refusal.Refusal.{Refusal}
use Rattle.bale_subjects.specs.declared.refusal.Refusal.TheVariants as refusal
use Rattle.bale_subjects.specs.declared.subject.Subject.{Subject}
use Rattle.bale_subjects.specs.Subjects.{subject_asked, suits}

-- What the source told, if the command reads it: one whose matrix is generated doesn't.
abbrev pub HasText : Option Generated → Option (List ℕ) → List ℕ → Type 0
HasText None left text = left ≡ Some text
HasText (Some g) left text = Unit {0}

abbrev pub SourceHad : Option Command → Option (List ℕ) → List ℕ → Type 0
SourceHad None left text = Unit {0}
SourceHad (Some c) left text = HasText c.travel.generated left text

-- Whether a command reads the source.
abbrev pub reads : Option Command → Bool
reads None = false
reads (Some c) = not (is_some c.travel.generated)

-- A subject of a command: a matrix or lines, as its task asks, and the one of the source's text, if
-- the source tells that. A generated matrix is told by the command alone.
-- For histo and a source that has "%%MatrixMarket matrix coordinate pattern general/2 2 0/" left it
-- is the matrix of two rows, two columns and no entry.
pub record IsSubjectOf (c : Command) (left : Option (List ℕ)) (s : Subject) : Type 0 where
  pub suits : suits c.task s ≡ true
  pub of_text : (text : List ℕ) → HasText c.travel.generated left text → subject_asked c text ≡ Ok s

-- A refusal that reading gives.
abbrev pub IsOfReading : Refusal → Type 0
IsOfReading refusal.Usage = ⊥
IsOfReading refusal.ReadFault = Unit {0}
IsOfReading (refusal.BadText b) = Unit {0}
IsOfReading (refusal.Unfit u) = ⊥
IsOfReading refusal.WriteFault = ⊥
IsOfReading refusal.NoMemory = Unit {0}

-- The answer is what is asked, and a bad text is refused as such. A read fault and want of memory
-- are free.
abbrev pub IsRead : Result Subject Refusal → Result Subject Refusal → Type 0
IsRead asked (Ok s) = asked ≡ Ok s
IsRead asked (Err (refusal.BadText b)) = asked ≡ Err (refusal.BadText b)
IsRead asked (Err refusal.Usage) = Unit {0}
IsRead asked (Err refusal.ReadFault) = Unit {0}
IsRead asked (Err (refusal.Unfit u)) = Unit {0}
IsRead asked (Err refusal.WriteFault) = Unit {0}
IsRead asked (Err refusal.NoMemory) = Unit {0}

-- A fact, if the text was read as far as it counts.
abbrev pub OnText : Result Subject Refusal → Type 0 → Type 0
OnText (Ok s) P = P
OnText (Err (refusal.BadText b)) P = P
OnText (Err refusal.Usage) P = Unit {0}
OnText (Err refusal.ReadFault) P = Unit {0}
OnText (Err (refusal.Unfit u)) P = Unit {0}
OnText (Err refusal.WriteFault) P = Unit {0}
OnText (Err refusal.NoMemory) P = Unit {0}
