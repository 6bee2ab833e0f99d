use Rattle.app_tally.specs.Texts.{lines_of_text}
use Rattle.bale_subjects.proofs.Read.{no_lines_read}
use Rattle.bale_subjects.proofs.job.read_lines_of.Goals as goal

pub returns-in_err-lines-clause-asked : goal.returns-in_err-lines-clause-asked
returns-in_err-lines-clause-asked g c = λ text told.
    no_lines_read c.in_err-lines.field-0.0 (lines_of_text text) c.from_residual.result (c.in_err-lines.ensures.gives text told) c.from_residual.ensures.1
