use Rattle.std.proofs.Common.{rules, arith}
use Rattle.mtx_text.proofs.Chains.{rows_more, all_apart}
use Rattle.mtx_text.proofs.apart.are_apart.Goals as goal

pub loop-row-preserved : goal.loop-row-preserved
loop-row-preserved c = (
  rows_more c.args.entries.now c.loop-row.row c.loop-row.invariant.0 (c.is_row_apart.ensures.apart c.if-not-is_row_apart.false),
  search rules,
)

pub returns : goal.returns
returns c = λ _. all_apart c.args.entries.now c.args.side c.requires.within (λ r h. c.loop-row.invariant.0 r (omega arith))
