-- What an application needs of its subject, beside what the words tell.
use Rattle.std.specs.Prelude.{◌≡◌, ◌≤◌, ℕ, Bool, true, false, None}
use Rattle.bale_words.specs.declared.task.Task.{Task}
use Rattle.bale_words.specs.Ranges.{TaskInRanges}
use Rattle.bale_subjects.specs.declared.subject.Subject.{Subject}
use Rattle.bale_subjects.specs.Fitness.{first_failed, subject_tests, task_unfitness}
use Rattle.bale_subjects.specs.Subjects.{is_tally, suits}
use Rattle.mtx_text.specs.Sparse.{Sparse}
use Rattle.mtx_text.specs.Permutations.{Permutes}
use Rattle.least_walks.specs.Walks.{no_negative}
use Rattle.bale_words.specs.declared.command.Permutations.{Permutations}
use Rattle.bale_subjects.specs.Numberings.{perms_for}

-- A task and a subject that fit each other, driven serially or on threads.
-- of_kind: the subject is of the kind that the task is asked of
-- ranges: the task's numbers are in their ranges
-- fits: no test of fitness fails
pub record IsFit (task : Task) (subject : Subject) : Type 0 where
  pub of_kind : suits task subject ≡ true
  pub ranges : TaskInRanges task
  pub fits : (serial : Bool) × (first_failed (subject_tests task subject serial) ≡ None)

-- The same of a task that is asked of a matrix.
pub record IsFitOn (task : Task) (m : Sparse) : Type 0 where
  pub other : is_tally task ≡ false
  pub ranges : TaskInRanges task
  pub fits : (serial : Bool) × (task_unfitness task m serial ≡ None)

-- An answer can be written: the options and the subject have what is needed, and it is an answer
-- for them.
pub record CanWrite {O S A : Type 0} (Needs : O → S → Type 0) (Answers : O → S → A → Type 0) (options : O) (subject : S)
    (answer : A) : Type 0 where
  pub needs : Needs options subject
  pub answers : Answers options subject answer

-- The new numbers of rows and columns are permutations.
abbrev pub CanMove : Permutations → Sparse → Type 0
CanMove by m = Permutes m.rows (perms_for by m).rows × Permutes m.cols (perms_for by m).cols

-- A square matrix without a negative weight, and a source, counted from 1, that is one of its
-- vertices.
abbrev pub HasWalks : ℕ → Sparse → Type 0
HasWalks source m = (m.cols ≡ m.rows) × (no_negative m.entries ≡ true) × (1 ≤ source) × (source ≤ m.rows)

-- The same, and a width of buckets.
abbrev pub HasBuckets : ℕ × ℕ → Sparse → Type 0
HasBuckets by m = HasWalks by.0 m × (1 ≤ by.1) × (by.1 ≤ 1000000000000)
