use Rattle.std.proofs.Common.{◌≤◌, length, arith}
use Rattle.mtx_text.proofs.OfCells.{lawful}
use Rattle.mtx_text.proofs.of_cells.of_ordered.Goals as goal

pub of_parts-requires : goal.of_parts-requires
of_parts-requires c =
    let ts = c.args.triples in
    let few : length ts.items ≤ 524_288 = omega (arith, c.if-len-gt-MOST_ENTRIES.false, ts.ok.0, c.len.ensures) in
    lawful c.args.rows c.args.cols c.args.kind ts.items c.requires.sides.tall c.requires.sides.wide few c.requires.inside c.requires.ordered
