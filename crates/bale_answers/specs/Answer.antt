-- What a run answers: a status, the bytes for err, and what out takes.
use Rattle.std.specs.Prelude.{◌≡◌, ℕ, Bool, List, [], ◌==◌, ◌&&◌, Option, Some, None, is_some, Result, Ok, Err, OnOk}
use Rattle.std.specs.Prelude.{if◌then◌else◌}
use Rattle.std.specs.Prelude.{OnErr}
use Rattle.bale_types.specs.Stream.{taken_with, IsTakenPrefix, CountsFaults}
use Rattle.bale_words.specs.declared.command.Command.{Command}
use Rattle.bale_words.specs.declared.command.Generated.{Generated}
use Rattle.bale_words.specs.Words.{command_of}
use Rattle.bale_subjects.specs.declared.refusal.BadText.{BadText}
use Rattle.bale_subjects.specs.declared.refusal.Refusal.{Refusal}
use Rattle.bale_subjects.specs.declared.refusal.Refusal.TheVariants as refusal
use Rattle.bale_subjects.specs.declared.subject.Subject.{Subject}
use Rattle.bale_subjects.specs.declared.unfit.Unfit.{Unfit}
use Rattle.bale_subjects.specs.Fitness.{unfitness}
use Rattle.bale_subjects.specs.Reading.{HasText}
use Rattle.bale_subjects.specs.Refusals.{refusal_text, status_of}
use Rattle.bale_subjects.specs.Subjects.{subject_asked}
use Rattle.bale_answers.specs.Summary.{summary_of}
use Rattle.bale_answers.specs.Tasks.{IsAnswer, Means, task_status}

-- A status, and what is said on err.
pub record Answer : Type 0 where
  pub status : ℕ
  pub err : List ℕ

-- A refusal's status and text.
abbrev pub refusal_answer : Refusal → Answer
refusal_answer r = record { status = status_of r; err = refusal_text r }

-- A command's answer for a subject that it fits, with its own status, or that it doesn't fit.
abbrev pub answer_by : ℕ → Option Unfit → Answer
answer_by status (Some u) = refusal_answer (refusal.Unfit u)
answer_by status None = record { status = status; err = [] }

-- A command's answer for a text that has what it is asked of, or that has not.
abbrev pub answer_for : Bool → Command → Result Subject Refusal → Answer
answer_for serial c (Err r) = refusal_answer r
answer_for serial c (Ok s) = answer_by (task_status c.task s) (unfitness c s serial)

-- The answer to a command, and to words that give none.
abbrev pub answer_to : (Command → Bool) → Option Command → List ℕ → Answer
answer_to serial None text = refusal_answer refusal.Usage
answer_to serial (Some c) text = answer_for (serial c) c (subject_asked c text)

-- The serial answer: what the words ask for, of the matrix of the text or the generated one, or of
-- the lines of the text. No rank, buffer or link occurs in it; `serial` says which commands are
-- driven on one thread, for which large runs are unfit.
-- 2 and "bale: usage" if the words are no command; 5 and the first bad line if the text has
-- no matrix, or, for tally, the line if it is too long; 6 and the first test that fails if
-- the command doesn't fit; else 0, or 1 if topo finds no order, and, on out, the bytes that
-- `Wrote` tells of.
-- For "sssp --source 3" and "%%MatrixMarket matrix coordinate pattern general/2 2 0/" it is 6 with
-- "bale: unfit: source out of range/" on err, with / for LF.
abbrev pub serial_answer : (Command → Bool) → List (List ℕ) → List ℕ → Answer
serial_answer serial words text = answer_to serial (command_of words) text

-- What was asked of a run: the words give this command, this is its matrix or its lines, and the
-- command fits it.
pub record Asked (serial : Command → Bool) (left : Option (List ℕ)) (job : Option Command) (text : List ℕ) (c : Command)
    (s : Subject) : Type 0 where
  pub asked : job ≡ Some c
  pub told : HasText c.travel.generated left text
  pub subject : subject_asked c text ≡ Ok s
  pub fits : unfitness c s (serial c) ≡ None

-- The words give a command whose text isn't what it is asked of, for this reason.
pub record IsBad (job : Option Command) (text : List ℕ) (b : BadText) : Type 0 where
  pub command : Command
  pub asked : job ≡ Some command
  pub why : subject_asked command text ≡ Err (refusal.BadText b)

-- The words give a command that doesn't fit its subject, and this is why.
pub record IsUnfit (serial : Command → Bool) (job : Option Command) (text : List ℕ) (u : Unfit) : Type 0 where
  pub command : Command
  pub asked : job ≡ Some command
  pub subject : Subject
  pub read : subject_asked command text ≡ Ok subject
  pub why : unfitness command subject (serial command) ≡ Some u

-- What is written of an answer with this status: its bytes, or, at 0 and if the matrix was
-- generated, their summary.
abbrev pub shown_text : Option Generated → ℕ → List ℕ → List ℕ
shown_text generated status bytes = if is_some generated && status == 0 then summary_of bytes else bytes

-- What a sink has taken of an answer as it is shown: all of it, or a prefix if a write failed.
-- `old` is what it held.
pub record HasWritten {T E : Type 0} (IsAnswer : List ℕ → Type 0) (shows : List ℕ → List ℕ) (old new : Option (List ℕ))
    (written : Result T E) : Type 0 where
  pub bytes : List ℕ
  pub answers : IsAnswer bytes
  pub whole : OnOk written (new ≡ taken_with old (shows bytes))
  pub front : OnErr written (IsTakenPrefix new (taken_with old (shows bytes)))

-- What a call does to a sink that it writes to, by its answer.
-- held: what the sink held stays
-- counts: how its count of faults goes with the answer
pub record TakesMore {K T E : Type 0} (taken : K → Option (List ℕ)) (faults : K → ℕ) (old new : K)
    (result : Result T E) : Type 0 where
  pub held : IsTakenPrefix (taken old) (taken new)
  pub counts : CountsFaults (faults old) (faults new) result

-- What is said on err at a status: nothing at 0 and 1, of a fault its text, else what the serial
-- answer says.
-- At 3 it is "bale: read fault\n"; at 5 it is the bad line and its reason.
abbrev pub said : ℕ → Answer → List ℕ
said status answer =
    if status == 0 then []
    else if status == 1 then []
    else if status == 3 then refusal_text refusal.ReadFault
    else if status == 4 then refusal_text refusal.WriteFault
    else if status == 7 then refusal_text refusal.NoMemory
    else answer.err
