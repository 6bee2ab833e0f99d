-- What a command is asked of: a matrix, or the lines of a text; or why there is none.
use Rattle.std.specs.Prelude.{ℕ, Bool, true, false, not, List, Option, None, Some, Result, Ok, Err, if◌then◌else◌}
use Rattle.mtx_text.specs.declared.refusal.BadLine.{BadLine}
use Rattle.mtx_text.specs.declared.refusal.ReadFault.{ReadFault}
use Rattle.mtx_text.specs.declared.refusal.ReadFault.TheVariants as read_fault
use Rattle.mtx_text.specs.Sparse.{Sparse}
use Rattle.mtx_text.specs.Grammar.{matrix_of}
use Rattle.mtx_text.specs.Generated.{generated_matrix}
use Rattle.app_tally.specs.declared.lines.LinesFault.{LinesFault}
use Rattle.app_tally.specs.declared.lines.LinesFault.TheVariants as lines_fault
use Rattle.app_tally.specs.Texts.{lines_of_text}
use Rattle.bale_words.specs.declared.command.Command.{Command}
use Rattle.bale_words.specs.declared.command.Generated.{Generated}
use Rattle.bale_words.specs.declared.task.Task.{Task}
use Rattle.bale_words.specs.declared.task.Task.TheVariants as task
use Rattle.bale_subjects.specs.declared.refusal.BadText.TheVariants as bad
use Rattle.bale_subjects.specs.declared.refusal.Refusal.{Refusal}
use Rattle.bale_subjects.specs.declared.refusal.Refusal.TheVariants as refusal
use Rattle.bale_subjects.specs.declared.subject.Subject.{Subject}
use Rattle.bale_subjects.specs.declared.subject.Subject.TheVariants as subject

-- tally is asked of lines, and each other application of a matrix.
abbrev pub is_tally : Task → Bool
is_tally task.Tally = true
is_tally _ = false

-- A task of its own kind of subject.
abbrev pub suits : Task → Subject → Bool
suits t (subject.Matrix m) = not (is_tally t)
suits t (subject.Lines lines) = is_tally t

-- The refusal that a fault of reading a matrix becomes.
abbrev pub refusal_of : ReadFault → Refusal
refusal_of read_fault.Source = refusal.ReadFault
refusal_of (read_fault.Bad b) = refusal.BadText (bad.NoMatrix b)
refusal_of read_fault.NoMemory = refusal.NoMemory

-- The refusal that a fault of reading lines becomes.
abbrev pub lines_refusal : LinesFault → Refusal
lines_refusal lines_fault.Source = refusal.ReadFault
lines_refusal (lines_fault.TooLong n) = refusal.BadText (bad.TooLong n)
lines_refusal (lines_fault.LineTooLong n) = refusal.BadText (bad.LineTooLong n)
lines_refusal lines_fault.NoMemory = refusal.NoMemory

-- The matrix that is asked of: the generated one, or that of the text.
abbrev pub matrix_asked : Option Generated → List ℕ → Result Sparse BadLine
matrix_asked None text = matrix_of text
matrix_asked (Some g) text = Ok (generated_matrix g.rows g.entries g.seed)

-- A matrix as a subject, or the refusal of its text.
abbrev pub of_matrix : Result Sparse BadLine → Result Subject Refusal
of_matrix (Ok m) = Ok (subject.Matrix m)
of_matrix (Err b) = Err (refusal.BadText (bad.NoMatrix b))

-- Lines as a subject, or the refusal of their text.
abbrev pub of_lines : Result (List (List ℕ)) LinesFault → Result Subject Refusal
of_lines (Ok lines) = Ok (subject.Lines lines)
of_lines (Err f) = Err (lines_refusal f)

-- What a command is asked of, or the refusal that the text names: tally of the lines of the text,
-- each other of a matrix.
-- tally is asked of the lines "b" and "" of the text "b//", with / for LF.
abbrev pub subject_asked : Command → List ℕ → Result Subject Refusal
subject_asked c text =
    if is_tally c.task then of_lines (lines_of_text text) else of_matrix (matrix_asked c.travel.generated text)
