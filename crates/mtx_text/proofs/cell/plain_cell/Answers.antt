use Rattle.mtx_text.proofs.Caps.{cell_read}
use Rattle.mtx_text.proofs.cell.plain_cell.Goals as goal

pub returns-in-Some : goal.returns-in-Some
returns-in-Some c =
    let on = c.cell_on.ensures in
    record {
      at = rw (on.line.0, on.line.1) c.plain_three.ensures.at;
      value = cell_read c.args.form c.args.sizes _ c.args.text.now c.cell_on.result.len _ c.cell_on.result.cell _ on.value c.plain_three.ensures.fields on.line.0 c.in-Integer.is c.requires.tall c.requires.wide;
    }

pub returns-in_ok-last-in-None : goal.returns-in_ok-last-in-None
returns-in_ok-last-in-None c =
    let on = c.cell_on-in-None.ensures in
    record {
      at = rw (on.line.0, on.line.1) c.plain_three-in-None.ensures.at;
      value = cell_read c.args.form c.args.sizes _ c.args.text.now c.cell_on-in-None.result.len _ c.cell_on-in-None.result.cell _ on.value c.plain_three-in-None.ensures.fields on.line.0 c.in-Integer.is c.requires.tall c.requires.wide;
    }

pub returns-in_ok-plain_two-in-Pattern : goal.returns-in_ok-plain_two-in-Pattern
returns-in_ok-plain_two-in-Pattern c =
    let on = c.cell_on-in-Pattern.ensures in
    record {
      at = rw (on.line.0, on.line.1) c.in_ok-plain_two-in-Pattern.ensures.at;
      value = cell_read c.args.form c.args.sizes _ c.args.text.now c.cell_on-in-Pattern.result.len _ c.cell_on-in-Pattern.result.cell _ on.value c.in_ok-plain_two-in-Pattern.ensures.fields on.line.0 c.in-Pattern.is c.requires.tall c.requires.wide;
    }
