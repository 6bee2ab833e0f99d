-- What the two top calls promise alike.
use Rattle.std.specs.Prelude.{◌≡◌, ◌≢◌, ◌⊎◌, ◌≤◌, ℕ, Bool, true, false, List, [], Option, None, Some, drop}
use Rattle.bale_types.specs.Stream.{taken_with, IsTakenPrefix}
use Rattle.bale_items.specs.Counters.{RoseOrFull}
use Rattle.rank_group.specs.declared.closed_round.ClosedRound.{ClosedRound}
use Rattle.bale_words.specs.declared.command.Command.{Command}
use Rattle.bale_words.specs.Words.{command_of}
use Rattle.bale_subjects.specs.declared.refusal.BadText.{BadText}
use Rattle.bale_subjects.specs.declared.refusal.Refusal.{Refusal}
use Rattle.bale_subjects.specs.declared.refusal.Refusal.TheVariants as refusal
use Rattle.bale_subjects.specs.declared.subject.Subject.{Subject}
use Rattle.bale_subjects.specs.declared.unfit.Unfit.{Unfit}
use Rattle.bale_subjects.specs.Fitness.{unfitness}
use Rattle.bale_subjects.specs.Reading.{reads, SourceHad, IsSubjectOf}
use Rattle.bale_subjects.specs.Refusals.{refusal_text}
use Rattle.bale_answers.specs.Answer.{serial_answer, said, shown_text, Asked}
use Rattle.bale_answers.specs.Tasks.{IsAnswer, task_status}
use Rattle.bale_runs.specs.Asking.{FewestOfCommand, SweptOfCommand, TurnsOfCommand}
use Rattle.bale_runs.specs.Jobs.{as_asked, on_one_thread}
use Rattle.bale_runs.specs.Reports.{ReportsCommand, NotifiedOfEpochs}

-- What a run with an answer ran: a command of the words on a subject that it fits, the text's if
-- the source tells it. `bytes` are that command's answer, `P` says of its status and of the bytes
-- shown what out took, the rounds report what was exchanged, and `turns` says how its ranks
-- were turned.
-- What such bytes mean, in the words of each application's field, is a law of bale_answers.
-- This holds of standard input too, which tells no text: status 0 on the words `histo` then says
-- that some matrix was read, that the answer for it was written, and that its items travelled.
pub record HasRun (serial : Command → Bool) (turns : Command → Subject → List ClosedRound → Type 0)
    (job : Option Command) (left : Option (List ℕ)) (P : ℕ → List ℕ → Type 0)
    (rounds : List ClosedRound) : Type 0 where
  pub command : Command
  pub asked : job ≡ Some command
  pub subject : Subject
  pub is : IsSubjectOf command left subject
  pub fits : unfitness command subject (serial command) ≡ None
  pub bytes : List ℕ
  pub answers : IsAnswer command.task subject bytes
  pub wrote : P (task_status command.task subject)
      (shown_text command.travel.generated (task_status command.task subject) bytes)
  pub rounds_report : ReportsCommand (serial command) command subject rounds
  pub turned : turns command subject rounds

-- Why a run ended at 6: a command of the words doesn't fit its subject, which is the text's if the
-- source tells it; `P` says of the first test that fails what is said of it.
pub record HasNotFit (serial : Command → Bool) (job : Option Command) (left : Option (List ℕ))
    (P : Unfit → Type 0) : Type 0 where
  pub command : Command
  pub asked : job ≡ Some command
  pub subject : Subject
  pub is : IsSubjectOf command left subject
  pub why : Unfit
  pub unfit : unfitness command subject (serial command) ≡ Some why
  pub says : P why

-- err has taken a refusal's text, unless its own faults rose.
abbrev pub Says : {E : Type 0} → (E → Option (List ℕ)) → (E → ℕ) → E → E → Refusal → Type 0
Says told faults err err' r =
    ¬ RoseOrFull (faults err) (faults err') → told err' ≡ taken_with (told err) (refusal_text r)

-- A run of the command that the words name, which ends with a status and tells its rounds. `serial`
-- says of each command whether one thread turns all its ranks, and `turns` how they were turned
-- if the run came to its end; `left` is what a source tells of
-- what it has left, `taken` and `told` what out and err tell of what they have taken, and each
-- counts its own faults.
-- Example: on the words `histo`, `--grid`, `4`, `--buffer`, `2` and a matrix whose columns have 1,
-- 0 and 3 entries the status is 0, out has taken the lines `1 1`, `2 0` and `3 3`, and the rounds
-- tell one exchange of four items.
pub record IsRun {S K E : Type 0} (serial : Command → Bool)
    (turns : Command → Subject → List ClosedRound → Type 0) (words : List (List ℕ))
    (left : S → Option (List ℕ)) (read_faults : S → ℕ) (source source' : S)
    (taken : K → Option (List ℕ)) (write_faults : K → ℕ) (out out' : K) (told : E → Option (List ℕ))
    (err_faults : E → ℕ) (err err' : E)
    (status : ℕ) (rounds : List ClosedRound) : Type 0 where
  -- The status is the serial answer's for the words and the text. 3 comes if and only if a read
  -- failed and 4 if a write did; 7, want of memory, is free.
  pub low : status ≤ 7
  pub usage : status ≡ 2 → command_of words ≡ None
  pub no_command : command_of words ≡ None → status ≢ 7 → status ≡ 2
  pub status_is : (text : List ℕ) → SourceHad (command_of words) (left source) text → status ≢ 3 → status ≢ 4 → status ≢ 7
      → status ≡ (serial_answer serial words text).status
  pub read_fault : status ≡ 3 → RoseOrFull (read_faults source) (read_faults source')
  pub no_read_fault : status ≢ 3 → read_faults source' ≡ read_faults source
  pub write_fault : status ≡ 4 → RoseOrFull (write_faults out) (write_faults out')
  pub no_write_fault : status ≢ 4 → write_faults out' ≡ write_faults out
  -- The source is as it was if the matrix is generated, and at 2; else at 0, 1, 4, 5 and 6 the
  -- text was read whole, or to one byte past its limit.
  pub unread : reads (command_of words) ≡ false → source' ≡ source
  pub read_whole : (text : List ℕ) → left source ≡ Some text → reads (command_of words) ≡ true → status ≢ 3 → status ≢ 7
      → left source' ≡ Some (drop 16_777_217 text)
  -- At 0, 1 and 4 a command that fits its subject was run: at 0 and 1 out has taken the answer, at
  -- 4 a prefix of it. What out held stays, so at 4 it has what it held and then a prefix of the
  -- answer.
  -- The rounds report the application's table of rounds for its matrix or lines, and for ig over
  -- biconvey that of the sums and then the queries and the replies, over banks of the grid, the
  -- capacity and the slots that the words name: plain ones for one thread, else ones of slots.
  -- Over conveyors that aren't steady each epoch's entries travel in few parcels, by port_bank's
  -- few_parcels_law. At the other statuses out is as it was, and there are no rounds.
  pub has_run : (status ≡ 0) ⊎ (status ≡ 1) ⊎ (status ≡ 4) → HasRun serial turns
      (command_of words) (left source)
      (λ own bytes. (status ≢ 4 → (status ≡ own) × (taken out' ≡ taken_with (taken out) bytes))
      × IsTakenPrefix (taken out') (taken_with (taken out) bytes)) rounds
  pub no_rounds : status ≢ 0 → status ≢ 1 → status ≢ 4 → rounds ≡ []
  pub held : IsTakenPrefix (taken out) (taken out')
  pub no_answer : status ≢ 0 → status ≢ 1 → status ≢ 4 → out' ≡ out
  -- At 5 a text was read, and err names a bad line; at 6 the command doesn't fit, and err says why.
  pub bad : status ≡ 5 → (reads (command_of words) ≡ true)
      × ((b : BadText) × Says told err_faults err err' (refusal.BadText b))
  pub not_fit : status ≡ 6 → HasNotFit serial (command_of words) (left source)
      (λ u. Says told err_faults err err' (refusal.Unfit u))
  -- What is said on err is whole unless its own faults rose; the text matters at 5 and 6 alone. At
  -- 0 and 1 err is as it was.
  pub said_whole : (text : List ℕ) → ((status ≡ 5) ⊎ (status ≡ 6) → SourceHad (command_of words) (left source) text)
      → ¬ RoseOrFull (err_faults err) (err_faults err')
      → told err' ≡ taken_with (told err) (said status (serial_answer serial words text))
  pub said_front : (text : List ℕ) → ((status ≡ 5) ⊎ (status ≡ 6) → SourceHad (command_of words) (left source) text)
      → IsTakenPrefix (told err') (taken_with (told err) (said status (serial_answer serial words text)))
  pub said_held : IsTakenPrefix (told err) (told err')
  pub silent : (status ≡ 0) ⊎ (status ≡ 1) → err' ≡ err

-- The turns of a run on one thread, from `before` to `after`, by what the words name and what the
-- source tells.
pub record AreTurns (left : Option (List ℕ)) (job : Option Command) (before after : ℕ) : Type 0 where
  -- They are bounded by the words and the matrix or lines, at 7 too.
  pub bounded : (text : List ℕ) (c : Command) (s : Subject) → Asked on_one_thread left job text c s
      → TurnsOfCommand c s before after
  -- If the words and the text ask for no run, there are none.
  pub idle : (text : List ℕ) → SourceHad job left text
      → ((c : Command) (s : Subject) → ¬ Asked on_one_thread left job text c s) → after ≡ before

-- On one thread: all turns were made in sweeps of the ranks in the order 0, 1, .., P-1, and each
-- rank made one in each epoch at least.
abbrev pub TurnedInOrder : ℕ → ℕ → Command → Subject → List ClosedRound → Type 0
TurnedInOrder before after c s rounds =
    SweptOfCommand c s before after rounds × FewestOfCommand c s before after

-- On threads: a turn of each rank in each epoch is in the set `notified` of the gate.
abbrev pub GateNotified : (ℕ → ℕ → Bool) → Command → Subject → List ClosedRound → Type 0
GateNotified notified c s rounds = as_asked c ≡ false → NotifiedOfEpochs c.grid notified rounds
