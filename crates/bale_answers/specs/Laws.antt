-- What the answers mean, whatever a command and the text are.
use Rattle.std.specs.Prelude.{◌≡◌, ℕ, Bool, List, Some, None, Ok}
use Rattle.bale_words.specs.declared.command.Command.{Command}
use Rattle.bale_words.specs.Ranges.{MayGenerate}
use Rattle.bale_words.specs.Words.{command_of}
use Rattle.bale_subjects.specs.declared.subject.Subject.{Subject}
use Rattle.bale_subjects.specs.Fitness.{unfitness}
use Rattle.bale_subjects.specs.Subjects.{subject_asked}
use Rattle.bale_answers.specs.Answer.{serial_answer}
use Rattle.bale_answers.specs.Tasks.{IsAnswer, Means, task_status}

-- A command, whose matrix can be generated if it is to be, is asked of this, fits it on one thread
-- or by threads, and these bytes are its answer.
-- for histo and "%%MatrixMarket matrix coordinate pattern general/2 2 0/" the bytes are "1 0/2 0/",
-- with / for LF
pub record Answers (c : Command) (text : List ℕ) (serial : Bool) (s : Subject) (bytes : List ℕ) : Type 0 where
  pub generates : MayGenerate c.travel.generated
  pub read : subject_asked c text ≡ Ok s
  pub fits : unfitness c s serial ≡ None
  pub answers : IsAnswer c.task s bytes

-- Whatever was asked, its answer means what the task's row says (`Means`), with the task's status.
-- for histo the bytes have of each column the number of its entries
abbrev pub AnswerLaw : Type 0
AnswerLaw = (c : Command) (text : List ℕ) (serial : Bool) (s : Subject) (bytes : List ℕ)
    → Answers c text serial s bytes → Means c.task s (task_status c.task s) bytes

-- A command that words give generates only what can be generated; and if it fits what it is asked
-- of, then the serial answer to these words has the task's status.
abbrev pub WordsLaw : Type 0
WordsLaw = (serial : Command → Bool) (words : List (List ℕ)) (text : List ℕ) (c : Command) (s : Subject)
    → command_of words ≡ Some c → subject_asked c text ≡ Ok s → unfitness c s (serial c) ≡ None
    → MayGenerate c.travel.generated × ((serial_answer serial words text).status ≡ task_status c.task s)
