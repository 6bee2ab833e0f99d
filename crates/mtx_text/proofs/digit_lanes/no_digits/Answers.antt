use Rattle.std.proofs.Common.{◌+◌, ◌∙◌, ap, arith}
use Rattle.mtx_text.proofs.NoDigits.{with_top, below_top}
use Rattle.mtx_text.proofs.digit_lanes.no_digits.Goals as goal

pub overflow_add-result : goal.overflow_add-result
overflow_add-result c = record { fits = omega (arith, c.no_digits_in.ensures, below_top c.args.text.now c.requires) }

pub returns : goal.returns
returns c = ap (λ n. n + 9_223_372_036_854_775_808) c.no_digits_in.ensures ∙ with_top c.args.text.now c.requires
