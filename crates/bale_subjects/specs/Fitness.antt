-- Whether a command can be answered for a matrix or for lines: tests in their order, of which the
-- first that fails decides.
use Rattle.std.specs.Prelude.{◌*◌, ◌==◌, ◌&&◌, ◌||◌, Bool, true, false, not, nat_lt, List, [], ◌∷◌, Option, None, Some}
use Rattle.std.specs.Prelude.{if◌then◌else◌}
use Rattle.std.specs.Prelude.{is_some, length}
use Rattle.mtx_text.specs.Sparse.{Sparse}
use Rattle.least_walks.specs.Walks.{no_negative}
use Rattle.bale_words.specs.declared.command.Command.{Command}
use Rattle.bale_words.specs.declared.command.Transport.{Transport}
use Rattle.bale_words.specs.declared.command.Transport.TheVariants.{Exstack}
use Rattle.bale_words.specs.declared.task.Task.{Task}
use Rattle.bale_words.specs.declared.task.Task.TheVariants as task
use Rattle.bale_words.specs.declared.command.Permutations.TheVariants.{Lists}
use Rattle.bale_subjects.specs.Numberings.{numbers_all}
use Rattle.bale_subjects.specs.declared.subject.Subject.{Subject}
use Rattle.bale_subjects.specs.declared.subject.Subject.TheVariants as subject
use Rattle.bale_subjects.specs.declared.unfit.Unfit.{Unfit}
use Rattle.bale_subjects.specs.declared.unfit.Unfit.TheVariants as unfit

abbrev pub is_exstack : Transport → Bool
is_exstack Exstack = true
is_exstack _ = false

-- A test: whether it fails, and what is then said.
abbrev pub Test : Type 0
Test = Bool × Unfit

-- The first test that fails.
abbrev pub first_failed : List Test → Option Unfit
first_failed [] = None
first_failed (t ∷ ts) = if t.0 then Some t.1 else first_failed ts

-- The tests of an application on a matrix. The last two bound what a serial drive sends.
abbrev pub tests_of : Task → Sparse → Bool → List Test
tests_of (task.Sssp source delta) m serial =
    (not (m.cols == m.rows), unfit.NotSquare) ∷ (not (no_negative m.entries), unfit.NegativeWeight)
    ∷ ((source == 0) || nat_lt m.rows source, unfit.Source)
    ∷ (serial && nat_lt 16777216 (m.rows * length m.entries), unfit.SerialSize)
    ∷ (serial && (is_some delta && nat_lt 1024 m.rows), unfit.DeltaRows) ∷ []
tests_of task.Topo m serial = (not (m.cols == m.rows), unfit.NotSquare) ∷ []
tests_of (task.Permute (Lists rows cols)) m serial =
    (not (numbers_all m.rows rows), unfit.RowPermutation) ∷ (not (numbers_all m.cols cols), unfit.ColumnPermutation)
    ∷ []
tests_of _ m serial = []

-- Why an application can't be answered for a matrix, driven serially or by threads: the first of
-- its tests that fails.
-- sssp from 5 on a matrix of 4 rows and 4 columns: the source is out of range.
abbrev pub task_unfitness : Task → Sparse → Bool → Option Unfit
task_unfitness t m serial = first_failed (tests_of t m serial)

-- The tests of a task on what it is asked of. All lines fit tally.
abbrev pub subject_tests : Task → Subject → Bool → List Test
subject_tests t (subject.Matrix m) serial = tests_of t m serial
subject_tests t (subject.Lines lines) serial = []

-- Why a command can't be answered: exstacks go over one hop alone, and then the tests of its task.
-- tally over exstacks on the grid 2x2: exstack needs a grid of one number.
abbrev pub unfitness : Command → Subject → Bool → Option Unfit
unfitness c s serial =
    first_failed
    ((is_exstack c.travel.transport && not (length c.grid == 1), unfit.ExstackGrid) ∷ subject_tests c.task s serial)
