-- Which programs a command runs for its answer, what the rounds tell of them, and how many turns
-- they take.
use Rattle.std.specs.Prelude.{◌≡◌, ◌<◌, ◌≤◌, ◌+◌, ◌*◌, ℕ, Bool, true, not, List, [], ◌∷◌, length}
use Rattle.std.specs.List.{range_with_len}
use Rattle.route_tensor.specs.Grid.{ranks}
use Rattle.round_program.specs.Rules.{Rules}
use Rattle.round_program.specs.Canonical.{HasRounds, HaveEnded}
use Rattle.rank_group.specs.declared.closed_round.ClosedRound.{ClosedRound}
use Rattle.rank_group.specs.Rounds.{round_inside}
use Rattle.rank_node.specs.Movers.{Manner}
use Rattle.rank_group.specs.declared.drive.Finished.{Finished}
use Rattle.rank_group.specs.Transcript.{BankShape, RecordsRun}
use Rattle.rank_group.specs.DrivePromises.{HasSwept, WithinTurns}
use Rattle.bale_words.specs.declared.command.Command.{Command}
use Rattle.bale_words.specs.declared.task.Task.{Task}
use Rattle.app_cases.specs.Any.{AnyState, any_rules}
use Rattle.bale_subjects.specs.declared.subject.Subject.{Subject}
use Rattle.bale_answers.specs.Tasks.{plan_of, starts_of}

-- The bank of a command's run: its grid, the entries of a parcel, the slots of a link; a plain one
-- if it is driven on one thread, and one of slots if each rank has a thread.
abbrev pub made_for : Bool → Command → BankShape
made_for serial c = record { dims = c.grid; cap = c.travel.buffer; slots = c.travel.slots; by_slots = not serial }

-- The programs after the canonical run of those that the task begins with, on some number of ranks
-- from 1 to 64.
pub record HaveRunTask (t : Task) (s : Subject) (progs : List AnyState) : Type 0 where
  pub ranks : ℕ
  pub some : 1 ≤ ranks
  pub few : ranks ≤ 64
  pub begun : 0 < length (starts_of t ranks s)
  pub ended : HaveEnded any_rules (starts_of t ranks s) progs

-- The rounds of a run are one closed round, which tells the canonical run of these programs.
pub record Records {S : Type 0} (R : Rules S) (starts : List S) (made : BankShape) (manner : Manner)
    (rounds : List ClosedRound) : Type 0 where
  pub closed : ClosedRound
  pub only : rounds ≡ closed ∷ []
  pub count : ℕ
  pub has_rounds : HasRounds R starts count
  pub tells : RecordsRun R starts count made manner (round_inside closed)

-- The rounds tell the canonical run of a task's programs for its subject, over a bank that was made
-- as said.
-- For histo on 4 ranks: that of histo_rules, begun with histo_starts 4 m.
abbrev pub RecordsTask : Task → Subject → BankShape → Manner → List ClosedRound → Type 0
RecordsTask t s made manner rounds = Records (plan_of t s).rules ((plan_of t s).starts (ranks made.dims)) made manner rounds

-- What the drive of a task's programs for its subject leaves.
pub record IsTaskRun (t : Task) (s : Subject) (made : BankShape) (manner : Manner) (run : Finished AnyState) : Type 0 where
  -- The programs are those after the run.
  pub ended : HaveRunTask t s run.progs
  -- The rounds tell it.
  pub rounds : RecordsTask t s made manner run.rounds

-- The turns of a task's run for its subject are bounded before it.
abbrev pub TurnsOfTask : Task → Subject → Manner → List ℕ → ℕ → ℕ → Type 0
TurnsOfTask t s manner dims before after =
    WithinTurns (plan_of t s).rules ((plan_of t s).starts (ranks dims)) manner dims before after

-- And each rank of these programs made one at least in each epoch: one of its work and one of its
-- votes in each round.
abbrev pub BeyondTurns : {S : Type 0} → Rules S → List S → List ℕ → ℕ → ℕ → Type 0
BeyondTurns R starts dims before after = (n : ℕ) → HasRounds R starts n → before + 2 * n * ranks dims ≤ after

-- The fewest turns of a task's run for its subject.
abbrev pub FewestOfTask : Task → Subject → List ℕ → ℕ → ℕ → Type 0
FewestOfTask t s dims before after =
    BeyondTurns (plan_of t s).rules ((plan_of t s).starts (ranks dims)) dims before after

-- On one thread the ranks of these programs made their turns in sweeps, each in the order 0, 1, ..,
-- P-1, and no other turn; the rounds tell what these turns left.
pub record SweptInOrder (starts : List AnyState) (made : BankShape) (manner : Manner) (before after : ℕ)
    (rounds : List ClosedRound) : Type 0 where
  pub run : Finished AnyState
  pub left : run.rounds ≡ rounds
  pub swept : HasSwept any_rules starts made manner (range_with_len 0 (ranks made.dims)) before after run
