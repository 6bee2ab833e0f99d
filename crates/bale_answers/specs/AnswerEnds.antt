-- How the writing of an answer ended.
use Rattle.std.specs.Prelude.{◌≡◌, ◌≤◌, ℕ, List, Option, OnOk}
use Rattle.bale_types.specs.Stream.{HasCause, IsTakenPrefix}
use Rattle.bale_words.specs.declared.command.Generated.{Generated}
use Rattle.bale_words.specs.declared.task.Task.{Task}
use Rattle.bale_subjects.specs.declared.subject.Subject.{Subject}
use Rattle.bale_answers.specs.declared.finish.AnswerEnd.{AnswerEnd}
use Rattle.bale_answers.specs.Answer.{HasWritten, shown_text}
use Rattle.bale_answers.specs.Tasks.{IsAnswer, task_status}

-- The answer of a task for its subject, on a sink before and after: `taken` is what a sink tells of
-- what it has taken, and it counts its own faults.
-- For histo and a matrix of 2 columns and no entry the status is 0, and the sink has taken "1 0/2
-- 0/", with / for LF.
pub record IsAnswerEnd {K : Type 0} (t : Task) (s : Subject) (generated : Option Generated)
    (taken : K → Option (List ℕ)) (faults : K → ℕ) (out out' : K) (e : AnswerEnd) : Type 0 where
  -- The status is the answer's: 0, or 1 if topo finds no order.
  pub status : e.status ≡ task_status t s
  pub low : e.status ≤ 1
  -- All of the answer was taken, or a prefix of it if a write failed; what the sink held stays.
  pub answer : HasWritten (IsAnswer t s) (shown_text generated (task_status t s)) (taken out) (taken out') e.written
  pub held : IsTakenPrefix (taken out) (taken out')
  -- A failed write is the sink's own fault, and if all was taken there was none.
  pub cause : HasCause (faults out) (faults out') e.written
  pub no_fault : OnOk e.written (faults out' ≡ faults out)
