use Rattle.std.proofs.Common.{rules}
use Rattle.mtx_text.proofs.Digits.{digits_step, all_step}
use Rattle.mtx_text.proofs.numbers.leading_digits.Goals as goal

pub loop-i-preserved : goal.loop-i-preserved
loop-i-preserved c = (
  digits_step c.args.line.now c.loop-i.i _ c.loop-i.size _ (search rules) (search rules) c.loop-i.invariant.0 c.min-size.ensures,
  all_step c.args.line.now c.loop-i.i (search rules) (search rules) c.loop-i.invariant.1,
)
