use Rattle.std.proofs.Common.{◌+◌}
use Rattle.mtx_text.proofs.PlainLines.{line_on, row_counts, two_fields, column_last}
use Rattle.mtx_text.proofs.plain.plain_two.Goals as goal

pub returns : goal.returns
returns c = record {
  at = record {
    line =
        let two = c.in_ok-row.field-0 in
        let say = c.in_ok-row.ensures in
        let rest = c.behind.result.now in
        let end = c.in_ok-end.end in
        let last = column_last c.args.text.now rest two.row.len two.column.len end two.column.size say.within say.few.0 c.behind.ensures say.some say.few.1 say.column c.in_ok-end.ensures in
        line_on c.args.text.now rest two.row.len two.column.len (two.column.len + end) two.row.size last.line c.behind.ensures say.row;
    counts =
        let two = c.in_ok-row.field-0 in
        row_counts c.args.text.now c.behind.result.now two.row.len two.column.len two.row.size c.behind.ensures c.in_ok-row.ensures.row;
  };
  fields =
      let two = c.in_ok-row.field-0 in
      let say = c.in_ok-row.ensures in
      let rest = c.behind.result.now in
      let end = c.in_ok-end.end in
      let last = column_last c.args.text.now rest two.row.len two.column.len end two.column.size say.within say.few.0 c.behind.ensures say.some say.few.1 say.column c.in_ok-end.ensures in
      rw (c.natural.ensures, c.natural-2.ensures, c.natural-3.ensures)
      (two_fields c.args.text.now rest two.row.len two.column.len (two.column.len + end) two.row.size _ c.behind.ensures say.row last);
}
