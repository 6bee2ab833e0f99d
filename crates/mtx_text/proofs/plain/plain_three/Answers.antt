use Rattle.std.proofs.Common.{◌≡◌, ℕ, ◌+◌, drop, refl, arith}
use Rattle.mtx_text.proofs.PlainLines.{line_on, row_counts, three_fields}
use Rattle.mtx_text.proofs.plain.plain_three.Goals as goal

grouped : (a b n : ℕ) → a + 1 + b + 1 + n ≡ a + 1 + (b + 1 + n)
grouped a b n = omega arith

pub returns : goal.returns
returns c = record {
  at = record {
    line =
        let text = c.args.text.now in
        let front = c.requires.front in
        let two = c.args.front.two in
        let last = c.args.last in
        let column = line_on (drop (two.row.len + 1) text) c.args.front.rest.now two.column.len last.len last.next two.column.size c.requires.last.line front.behind front.column in
        rw (grouped two.row.len two.column.len last.len, grouped two.row.len two.column.len last.next)
        (line_on text (drop (two.row.len + 1) text) two.row.len (two.column.len + 1 + last.len) (two.column.len + 1 + last.next) two.row.size column refl front.row);
    counts =
        let text = c.args.text.now in
        let two = c.args.front.two in
        rw (grouped two.row.len two.column.len c.args.last.len)
        (row_counts text (drop (two.row.len + 1) text) two.row.len (two.column.len + 1 + c.args.last.len) two.row.size refl c.requires.front.row);
  };
  fields =
      let text = c.args.text.now in
      let front = c.requires.front in
      let two = c.args.front.two in
      let last = c.args.last in
      rw (grouped two.row.len two.column.len last.len, c.natural.ensures, c.natural-2.ensures)
      (three_fields text (drop (two.row.len + 1) text) c.args.front.rest.now two.row.len two.column.len last.len last.next two.row.size two.column.size last.value
      refl front.behind front.row front.column c.requires.last);
}
