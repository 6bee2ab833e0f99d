use Rattle.mtx_text.proofs.EntryLines.{cell_inside}
use Rattle.mtx_text.proofs.draft.plain_lines.Goals as goal

pub push-requires : goal.push-requires
push-requires c = cell_inside c.args.form c.args.sizes _ c.in-Ok.t c.in-Some.plain.cell c.in-Some.ensures.value c.in-Ok.is
