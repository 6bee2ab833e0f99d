use Rattle.std.proofs.Common.{◌∙◌, ap, subst, arith, rules}
use Rattle.app_tally.specs.Texts.{lines_of_text, LinesGive}
use Rattle.app_tally.proofs.Walked.{front_decides, on_read_any}
use Rattle.app_tally.proofs.read.read_lines.Goals as goal

pub returns-in-Ok-clause-gives : goal.returns-in-Ok-clause-gives
returns-in-Ok-clause-gives g c = λ text told.
    subst (LinesGive c.lines_of.result) (ap lines_of_text (c.in-Ok.ensures.text text told) ∙ front_decides 16_777_217 text (omega arith)) c.lines_of.ensures.gives

pub returns-in-Ok-clause-left : goal.returns-in-Ok-clause-left
returns-in-Ok-clause-left g c = λ text told. on_read_any c.lines_of.result (c.in-Ok.ensures.left text told)

pub returns-in-Ok-clause-faults : goal.returns-in-Ok-clause-faults
returns-in-Ok-clause-faults g c = record {
  cause = λ e. absurd (c.lines_of.ensures.read e);
  no_fault = search rules;
  never_falls = search rules;
}
