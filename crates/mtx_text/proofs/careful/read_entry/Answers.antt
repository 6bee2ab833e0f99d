use Rattle.std.proofs.Common.{arith}
use Rattle.mtx_text.proofs.EntryLines.{cell_inside}
use Rattle.mtx_text.proofs.careful.read_entry.Goals as goal

pub is_taken-requires : goal.is_taken-requires
is_taken-requires c =
    let inside = cell_inside c.args.form c.args.sizes _ c.in_ok-t.t c.read_cell.result c.read_cell.ensures c.in_ok-t.was in
    omega (arith, inside.col, c.requires.wide)

pub returns-clause-inside : goal.returns-clause-inside
returns-clause-inside c = cell_inside c.args.form c.args.sizes _ c.in_ok-t.t c.read_cell.result c.read_cell.ensures c.in_ok-t.was
