use Rattle.std.proofs.Common.{arith}
use Rattle.mtx_text.proofs.PlainLines.{digits_line}
use Rattle.mtx_text.proofs.plain.last_digits.Goals as goal

pub returns : goal.returns
returns c =
    let digits = c.in_ok-digits in
    record {
      full = omega (arith, c.if-digits-eq0.false);
      within = digits.ensures.within;
      digits = digits.ensures.digits;
      value = digits.ensures.value (omega (arith, c.if-digits-gt-MOST_DIGITS.false));
      line = digits_line c.args.text.now digits.digits.len c.in_ok-end.end (omega (arith, digits.ensures.within)) digits.ensures.digits c.in_ok-end.ensures;
    }
