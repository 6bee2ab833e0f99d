-- What each task's answer means, from what was asked.
use Rattle.std.proofs.Common.{◌≡◌, ℕ, Bool, List, Option, Some, None, inl, inr, refl, sym, ap, ◌∙◌, subst}
use Rattle.std.specs.Prelude.{Result}
use Rattle.mtx_text.specs.Sparse.{Sparse, IsSparse}
use Rattle.app_topo.specs.Levels.{Claim, topo_order}
use Rattle.bale_words.specs.declared.command.Command.{Command}
use Rattle.bale_words.specs.declared.task.Task.{Task}
use Rattle.bale_words.specs.declared.task.Task.TheVariants as task
use Rattle.bale_words.proofs.Within.{in_ranges}
use Rattle.bale_subjects.specs.declared.refusal.Refusal.{Refusal}
use Rattle.bale_subjects.specs.declared.subject.Subject.{Subject}
use Rattle.bale_subjects.specs.declared.subject.Subject.TheVariants as subject
use Rattle.bale_subjects.specs.Fitness.{task_unfitness}
use Rattle.bale_subjects.specs.Numberings.{perms_for}
use Rattle.bale_answers.specs.Answer.{answer_to, answer_for, answer_by}
use Rattle.bale_answers.specs.Needs.{CanMove}
use Rattle.bale_answers.specs.Orders.{order_status, order_text}
use Rattle.bale_answers.specs.Tasks.{IsAnswer, MatrixMeans, task_status}
use Rattle.bale_answers.proofs.Moving.{moves}
use Rattle.app_histo_ig.specs.Meanings.{HistoMeans, IgMeans}
use Rattle.app_permute.specs.Meanings.{PermuteMeans, TransposeMeans}
use Rattle.app_permute.proofs.Meanings.{permute_means, transpose_means}
use Rattle.app_topo.specs.Meanings.{TopoMeans}
use Rattle.app_topo.proofs.Meanings.{IsFound, found, none}
use Rattle.app_tally.specs.Meanings.{TallyMeans}
use Rattle.bale_answers.specs.Laws.{AnswerLaw, WordsLaw}
use Rattle.bale_answers.proofs.Asked.{matrix_is, tally_is, task_fits, square, IsWalked, walked}
use Rattle.bale_answers.proofs.Columns.{histo_means, ig_means}
use Rattle.bale_answers.proofs.Tallies.{tally_means}

-- topo's order, or that there is none
order_means : (m : Sparse) (o : Option (List Claim)) → IsSparse m → m.rows ≡ m.cols → topo_order m.rows m.entries ≡ o → TopoMeans m (order_status o) (order_text o)
order_means m (Some order) is sq h =
    let f : IsFound m order = found m order is sq h in
    record {
      square = sq;
      found = λ e. record { order = order; lines = refl; size = f.size; valid = f.valid };
      none = λ e. absurd (cc);
      one_of_them = inl refl;
    }
order_means m None is sq h =
    record {
      square = sq;
      found = λ e. absurd (cc);
      none = λ e. record { line = refl; none = λ p q v. none m p q is sq h v };
      one_of_them = inr refl;
    }

-- each task on a matrix
matrix_means : (t : Task) (m : Sparse) (serial : Bool) (bytes : List ℕ) → IsSparse m → task_unfitness t m serial ≡ None → IsAnswer t (subject.Matrix m) bytes
    → MatrixMeans t m (task_status t (subject.Matrix m)) bytes
matrix_means task.Histo m serial bytes is fits a = subst (HistoMeans m) (sym a) (histo_means m is)
matrix_means task.Ig m serial bytes is fits a = subst (IgMeans m) (sym a) (ig_means m is)
matrix_means (task.Permute by) m serial bytes is fits a =
    let new : CanMove by m = moves by m serial fits in
    subst (PermuteMeans (perms_for by m).rows (perms_for by m).cols m) (sym a) (permute_means m (perms_for by m).rows (perms_for by m).cols is new.0 new.1)
matrix_means task.Transpose m serial bytes is fits a = subst (TransposeMeans m) (sym a) (transpose_means m is)
matrix_means task.Topo m serial bytes is fits a =
    subst (TopoMeans m (order_status (topo_order m.rows m.entries))) (sym a) (order_means m (topo_order m.rows m.entries) is (square task.Topo m serial refl fits) refl)
matrix_means (task.Sssp source delta) m serial bytes is fits a =
    let w : IsWalked m source = walked source delta m serial fits in
    record { square = w.square; weights = w.weights; some = w.some; vertex = w.vertex; least = a }
matrix_means task.Tally m serial bytes is fits a = absurd a

pub means : AnswerLaw
means c text serial (subject.Matrix m) bytes a =
    matrix_means c.task m serial bytes (matrix_is text c m a.generates a.read) (task_fits c m serial a.fits) a.answers
means c text serial (subject.Lines lines) bytes a = (tally_is c text lines a.read, subst (TallyMeans lines) (sym a.answers) (tally_means lines))

-- ---- Words

pub of_words : WordsLaw
of_words serial words text c s asked read fits = (
  (in_ranges words c asked).travel.generated,
  ap (λ (o : Option Command). (answer_to serial o text).status) asked
      ∙ ap (λ (r : Result Subject Refusal). (answer_for (serial c) c r).status) read
      ∙ ap (λ u. (answer_by (task_status c.task s) u).status) fits,
)
