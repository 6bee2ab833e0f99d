use Rattle.std.proofs.Common.{rules}
use Rattle.mtx_text.proofs.Digits.{digits_step, all_step}
use Rattle.mtx_text.proofs.integer.read_digits.Goals as goal

pub loop-b-preserved : goal.loop-b-preserved
loop-b-preserved c = (
  digits_step c.args.digits.now c.loop-b.b-index _ c.loop-b.size _ (search rules) (search rules) c.loop-b.invariant.0 c.min-size.ensures,
  all_step c.args.digits.now c.loop-b.b-index (search rules) (search rules) c.loop-b.invariant.1,
)
