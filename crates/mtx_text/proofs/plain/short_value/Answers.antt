use Rattle.std.proofs.Common.{◌+◌, ◌-◌, refl, subst, sym, arith}
use Rattle.mtx_text.specs.code.PlainLines.{LastAt}
use lib.Count.{count_trailing_zeros}
use Rattle.mtx_text.proofs.NoDigits.{digits_before}
use Rattle.mtx_text.proofs.PlainLines.{read_last}
use Rattle.mtx_text.proofs.plain.short_value.Goals as goal

pub number_of-requires : goal.number_of-requires
number_of-requires c =
    let two = c.args.front.two in
    let few = c.if-len-gt-FEW_DIGITS.false in
    record {
      room = omega (arith, c.requires.room, c.requires.few);
      full = omega (arith, c.if-len-eq0.false);
      few = omega (arith, few);
      digits = digits_before c.args.front.rest.now (14 - (two.row.len + two.column.len)) (count_trailing_zeros 64 two.others) two.others
          (omega (arith, c.requires.few)) (omega (arith, c.requires.room)) c.requires.others refl (omega (arith, few));
    }

pub returns : goal.returns
returns c =
    let rest = c.args.front.rest.now in
    let len = count_trailing_zeros 64 c.args.front.two.others in
    let end = c.in_ok-end.end in
    let few = c.if-len-gt-FEW_DIGITS.false in
    let last = read_last rest len end c.number_of.result (omega (arith, c.if-len-eq0.false)) (omega (arith, few)) (omega (arith, few, c.requires.room)) c.number_of.ensures c.in_ok-end.ensures in
    subst (LastAt rest len (len + end)) (sym c.natural.ensures) last
