use Rattle.std.proofs.Common.{is_some, sym, ap, ◌∙◌}
use Rattle.std.proofs.lemmas.Bool.{false≢true}
use Rattle.bale_subjects.proofs.job.read_matrix_of.Goals as goal

pub returns-in_err-matrix-in-Some-clause-read_whole : goal.returns-in_err-matrix-in-Some-clause-read_whole
returns-in_err-matrix-in-Some-clause-read_whole g c = λ text told none. absurd (false≢true (sym none ∙ ap is_some c.in-Some.is))
