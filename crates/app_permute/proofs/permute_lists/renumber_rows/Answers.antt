use Rattle.std.proofs.Common.{◌<◌, length, arith}
use Rattle.app_permute.specs.code.Sent.{with_new_row}
use Rattle.list_laws.proofs.Mapping.{mapped_step}
use Rattle.app_permute.proofs.permute_lists.renumber_rows.Goals as goal

pub loop-k-preserved : goal.loop-k-preserved
loop-k-preserved c =
    let within : c.loop-k.k < length c.args.cells.now.items = omega (arith, c.loop-k-test.true, c.len-k-end.ensures, c.args.cells.now.ok) in
    mapped_step (with_new_row c.args.ranks c.args.news.now) _ _ _ _ _ within c.loop-k.invariant c.index-cell.ensures c.with_new_row.ensures
