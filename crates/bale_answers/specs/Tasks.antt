-- What each task answers for a matrix, and tally for lines; what the answer means; and which
-- programs give it. A task has a line in each.
use Rattle.std.specs.Prelude.{◌≡◌, ◌-◌, ℕ, List, [], map, None, Some, refl}
use Rattle.mtx_text.specs.Sparse.{Sparse}
use Rattle.mtx_text.specs.Written.{text_of}
use Rattle.round_program.specs.Rules.{Rules}
use Rattle.bale_words.specs.declared.task.Task.{Task}
use Rattle.bale_words.specs.declared.task.Task.TheVariants as task
use Rattle.app_histo_ig.specs.Histos.{HistoState, histo_rules}
use Rattle.app_histo_ig.specs.HistoRuns.{histo_starts}
use Rattle.app_histo_ig.specs.HistoLines.{histo_lines}
use Rattle.app_histo_ig.specs.Igs.{IgState, ig_rules}
use Rattle.app_histo_ig.specs.IgRuns.{ig_starts}
use Rattle.app_histo_ig.specs.IgLines.{ig_lines}
use Rattle.app_histo_ig.specs.Meanings.{HistoMeans, IgMeans}
use Rattle.app_permute.specs.Meanings.{PermuteMeans, TransposeMeans}
use Rattle.app_permute.specs.Reorderings.{reordering_of, transpose_of}
use Rattle.app_permute.specs.Permutes.{PermuteState, permute_rules}
use Rattle.app_permute.specs.PermuteRuns.{permute_starts}
use Rattle.app_permute.specs.Transposes.{TransposeState, transpose_rules}
use Rattle.app_permute.specs.TransposeRuns.{transpose_starts}
use Rattle.app_sssp.specs.Sssps.{SsspState, sssp_rules}
use Rattle.app_sssp.specs.SsspRuns.{sssp_starts}
use Rattle.app_tally.specs.Counts.{tally_of, tally_text}
use Rattle.app_tally.specs.Meanings.{TallyMeans}
use Rattle.app_tally.specs.Tallies.{TallyState, tally_rules}
use Rattle.app_tally.specs.TallyRuns.{tally_starts}
use Rattle.app_topo.specs.Levels.{topo_order}
use Rattle.app_topo.specs.Meanings.{TopoMeans}
use Rattle.app_topo.specs.Topos.{TopoState, topo_rules}
use Rattle.app_topo.specs.TopoRuns.{topo_starts}
use Rattle.delta_step.specs.Deltas.{DeltaState, delta_rules}
use Rattle.delta_step.specs.DeltaRuns.{delta_starts}
use Rattle.elastic.specs.Mails.{MailState, mail_rules}
use Rattle.least_walks.specs.Lines.{IsSsspAnswer}
use Rattle.app_cases.specs.Any.{AnyState, any_rules, LeafPath, histo_way, ig_way, permute_way, transpose_way, topo_way}
use Rattle.app_cases.specs.Any.{tally_way, sssp_way, delta_way}
use Rattle.bale_subjects.specs.declared.subject.Subject.{Subject}
use Rattle.bale_subjects.specs.declared.subject.Subject.TheVariants as subject
use Rattle.bale_subjects.specs.Numberings.{perms_for}
use Rattle.bale_answers.specs.Orders.{order_status, order_text}
use Rattle.bale_answers.specs.Walks.{SsspMeans}

-- These bytes are a task's answer for a matrix. tally, which is asked of lines, has none.
abbrev pub IsMatrixAnswer : Task → Sparse → List ℕ → Type 0
IsMatrixAnswer task.Histo m bytes = bytes ≡ histo_lines m.entries m.cols
IsMatrixAnswer task.Ig m bytes = bytes ≡ ig_lines m.entries
IsMatrixAnswer (task.Permute by) m bytes = bytes ≡ text_of (reordering_of (perms_for by m).rows (perms_for by m).cols m)
IsMatrixAnswer task.Transpose m bytes = bytes ≡ text_of (transpose_of m)
IsMatrixAnswer task.Topo m bytes = bytes ≡ order_text (topo_order m.rows m.entries)
IsMatrixAnswer (task.Sssp source delta) m bytes = IsSsspAnswer m (source - 1) bytes
IsMatrixAnswer task.Tally m bytes = ⊥

-- The exit status of an answer: 1 if topo finds no order, else 0.
abbrev pub matrix_status : Task → Sparse → ℕ
matrix_status task.Topo m = order_status (topo_order m.rows m.entries)
matrix_status _ m = 0

-- These bytes are a task's answer for a matrix or for lines. For tally and the lines "b", "a", "b"
-- they are "1 a/2 b/", with / for LF.
abbrev pub IsAnswer : Task → Subject → List ℕ → Type 0
IsAnswer t (subject.Matrix m) bytes = IsMatrixAnswer t m bytes
IsAnswer t (subject.Lines lines) bytes = bytes ≡ tally_text (tally_of lines)

-- Its exit status.
abbrev pub task_status : Task → Subject → ℕ
task_status t (subject.Matrix m) = matrix_status t m
task_status t (subject.Lines lines) = 0

-- What a task's answer for a matrix means, by its status and its bytes; answer_law proves it of
-- every answer.
-- for histo: the bytes have of each column the number of its entries
abbrev pub MatrixMeans : Task → Sparse → ℕ → List ℕ → Type 0
MatrixMeans task.Histo m status bytes = HistoMeans m bytes
MatrixMeans task.Ig m status bytes = IgMeans m bytes
MatrixMeans (task.Permute by) m status bytes = PermuteMeans (perms_for by m).rows (perms_for by m).cols m bytes
MatrixMeans task.Transpose m status bytes = TransposeMeans m bytes
MatrixMeans task.Topo m status bytes = TopoMeans m status bytes
MatrixMeans (task.Sssp source delta) m status bytes = SsspMeans m source bytes
MatrixMeans task.Tally m status bytes = ⊥

-- The same of a matrix or of lines, which tally alone is asked of.
abbrev pub Means : Task → Subject → ℕ → List ℕ → Type 0
Means t (subject.Matrix m) status bytes = MatrixMeans t m status bytes
Means t (subject.Lines lines) status bytes = (t ≡ task.Tally) × TallyMeans lines bytes

-- The programs that answer a task for its subject, a rank each: what they do, and how they begin on
-- so many ranks.
pub record Plan : Type 1 where
  pub State : Type 0
  pub rules : Rules State
  pub starts : ℕ → List State

-- Those of each task on a matrix. tally, which is asked of lines, has none there.
-- for histo on 4 ranks: histo_starts 4 m, which do what histo_rules says
abbrev pub matrix_plan : Task → Sparse → Plan
matrix_plan task.Histo m = record { State = HistoState; rules = histo_rules; starts = λ p. histo_starts p m }
matrix_plan task.Ig m = record { State = IgState; rules = ig_rules; starts = λ p. ig_starts p m }
matrix_plan (task.Permute by) m =
    record {
      State = PermuteState;
      rules = permute_rules;
      starts = λ p. permute_starts p m (perms_for by m).rows (perms_for by m).cols;
    }
matrix_plan task.Transpose m =
    record { State = TransposeState; rules = transpose_rules; starts = λ p. transpose_starts p m }
matrix_plan task.Topo m = record { State = TopoState; rules = topo_rules; starts = λ p. topo_starts p m }
matrix_plan (task.Sssp source None) m =
    record { State = SsspState; rules = sssp_rules; starts = λ p. sssp_starts p m (source - 1) }
matrix_plan (task.Sssp source (Some delta)) m =
    record { State = DeltaState; rules = delta_rules; starts = λ p. delta_starts p m (source - 1) delta }
matrix_plan task.Tally m = record { State = MailState TallyState; rules = mail_rules tally_rules; starts = λ p. [] }

-- The same of a matrix or of lines: tally's are mailers, whose items spell the lines.
abbrev pub plan_of : Task → Subject → Plan
plan_of t (subject.Matrix m) = matrix_plan t m
plan_of t (subject.Lines lines) =
    record { State = MailState TallyState; rules = mail_rules tally_rules; starts = λ p. tally_starts p lines }

-- The way of a task's programs into any of the applications.
abbrev pub matrix_way : (t : Task) (m : Sparse) → LeafPath (matrix_plan t m).rules any_rules
matrix_way task.Histo m = histo_way
matrix_way task.Ig m = ig_way
matrix_way (task.Permute by) m = permute_way
matrix_way task.Transpose m = transpose_way
matrix_way task.Topo m = topo_way
matrix_way (task.Sssp source None) m = sssp_way
matrix_way (task.Sssp source (Some delta)) m = delta_way
matrix_way task.Tally m = tally_way

abbrev pub way_of : (t : Task) (s : Subject) → LeafPath (plan_of t s).rules any_rules
way_of t (subject.Matrix m) = matrix_way t m
way_of t (subject.Lines lines) = tally_way

-- The programs that a task begins with, as any of the applications.
unfoldable pub starts_of : Task → ℕ → Subject → List AnyState
starts_of t ranks s = map (way_of t s).case ((plan_of t s).starts ranks)

pub begun_with_fits : (t : Task) (ranks : ℕ) (s : Subject)
    → map (way_of t s).case ((plan_of t s).starts ranks) ≡ starts_of t ranks s
unfolding starts_of
begun_with_fits t ranks s = refl
