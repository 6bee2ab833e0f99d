-- What a run of a command for its subject needs, and how it ends.
use Rattle.std.specs.Prelude.{◌≡◌, ℕ, Bool, true, List, Option, None, Result, OnErr, IfOk, IfErr}
use Rattle.mtx_text.specs.Sparse.{IsSparse}
use Rattle.rank_group.specs.declared.closed_round.ClosedRound.{ClosedRound}
use Rattle.bale_words.specs.declared.command.Command.{Command}
use Rattle.bale_words.specs.Ranges.{InRanges}
use Rattle.bale_subjects.specs.declared.refusal.Refusal.{Refusal}
use Rattle.bale_subjects.specs.declared.refusal.Refusal.TheVariants as refusal
use Rattle.bale_subjects.specs.declared.subject.Subject.{Subject}
use Rattle.bale_subjects.specs.declared.subject.Subject.TheVariants as subject
use Rattle.bale_subjects.specs.Fitness.{unfitness}
use Rattle.bale_subjects.specs.Subjects.{suits}
use Rattle.bale_answers.specs.AnswerEnds.{IsAnswerEnd}
use Rattle.bale_runs.specs.declared.exchange.RunEnd.{RunEnd}

-- A command and a subject that fit each other, for a run on one thread or by threads.
pub record CommandFits (c : Command) (s : Subject) (serial : Bool) : Type 0 where
  -- The subject is a matrix or lines, as the task asks.
  pub suits : suits c.task s ≡ true
  -- The numbers of the words are in their ranges.
  pub ranges : InRanges c
  -- No test of fitness fails.
  pub fits : unfitness c s serial ≡ None

-- A matrix keeps what every matrix keeps.
abbrev pub IsKnown : Subject → Type 0
IsKnown (subject.Matrix m) = IsSparse m
IsKnown (subject.Lines lines) = Unit {0}

-- How a run ended on a sink, before and after: `taken` is what a sink tells of what it has taken,
-- it counts its own faults, and `tells` is what the rounds are to tell.
pub record IsRunEnd {K : Type 0} (c : Command) (s : Subject) (tells : List ClosedRound → Type 0)
    (taken : K → Option (List ℕ)) (faults : K → ℕ) (out out' : K)
    (ran : Result RunEnd Refusal) : Type 0 where
  -- The answer was written, or its writing failed.
  pub ending : IfOk ran (λ f. IsAnswerEnd c.task s c.travel.generated taken faults out out' f.ending)
  -- The rounds tell what was exchanged.
  pub rounds : IfOk ran (λ f. tells f.rounds)
  -- Refused is want of memory alone, and then nothing was written.
  pub memory : IfErr ran (λ r. r ≡ refusal.NoMemory)
  pub no_answer : OnErr ran (out' ≡ out)
