use Rattle.std.proofs.Common.{◌≡◌, ◌+◌, ◌/◌, ◌^◌, ◌≤◌, true, length, take, ap, sym, subst, rules, arith}
use Rattle.std.proofs.lemmas.List.{length-drop}
use Rattle.std.specs.List.{list_all}
use Rattle.std.specs.Char.{is_ascii_digit}
use Rattle.mtx_text.specs.code.PlainLines.{NumberTo}
use lib.Count.{count_trailing_zeros}
use Rattle.mtx_text.proofs.NoDigits.{first_run, second_run, third_bits}
use Rattle.mtx_text.proofs.plain.two_numbers.Goals as goal

pub number_of-requires : goal.number_of-requires
number_of-requires c =
    let text = c.args.text.now in
    let long : 24 ≤ length text = omega (arith, c.if-text-lt-WINDOW.false) in
    let few = c.if-len-gt-FEW_DIGITS.false in
    record {
      room = omega (arith, long);
      full = omega (arith, c.if-len-eq0.false);
      few = omega (arith, few);
      digits = first_run text c.no_digits-others.result (omega (arith, long)) c.no_digits-others.ensures (omega (arith, few));
    }

pub number_of-requires-2 : goal.number_of-requires-2
number_of-requires-2 c =
    let text = c.args.text.now in
    let others = c.no_digits-others.result in
    let len = count_trailing_zeros 64 others in
    let long : 24 ≤ length text = omega (arith, c.if-text-lt-WINDOW.false) in
    let near : len ≤ 5 = omega (arith, c.if-len-gt-FEW_DIGITS.false) in
    let few = c.if-width-gt-FEW_DIGITS.false in
    let digits = second_run text others len (omega (arith, long)) near c.no_digits-others.ensures (omega (arith, few)) in
    record {
      room = omega (arith, long, near, ap length c.behind.ensures, length-drop (len + 1) text);
      full = omega (arith, c.if-width-eq0.false);
      few = omega (arith, few);
      digits = subst (λ l. list_all is_ascii_digit (take (count_trailing_zeros 64 (others / 2 ^ (len + 1))) l) ≡ true) (sym c.behind.ensures) digits;
    }

pub returns : goal.returns
returns c =
    let text = c.args.text.now in
    let others = c.no_digits-others.result in
    let len = count_trailing_zeros 64 others in
    let width = count_trailing_zeros 64 (others / 2 ^ (len + 1)) in
    let long : 24 ≤ length text = omega (arith, c.if-text-lt-WINDOW.false) in
    let near : len ≤ 5 = omega (arith, c.if-len-gt-FEW_DIGITS.false) in
    let few : width ≤ 5 = omega (arith, c.if-width-gt-FEW_DIGITS.false) in
    let number = c.number_of.ensures in
    record {
      within = long;
      few = (near, few);
      row = record {
        full = omega (arith, c.if-len-eq0.false);
        within = omega (arith, long, near);
        digits = number.digits;
        value = number.value (omega (arith, near));
        ends = search rules;
      };
      some = omega (arith, c.if-width-eq0.false);
      column = subst (λ l. NumberTo l width c.number_of-2.result) c.behind.ensures c.number_of-2.ensures;
      others = third_bits text others len width (omega (arith, long)) near few c.no_digits-others.ensures;
    }
