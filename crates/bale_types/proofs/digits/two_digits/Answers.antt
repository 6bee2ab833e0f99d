use Rattle.std.proofs.Common.{◌++◌, take, ap, sym, ◌∙◌, arith, rules}
use Rattle.std.proofs.lemmas.Grind.{common_steps}
use Rattle.std.proofs.lemmas.Fmt.{decimal_digit}
use Rattle.itoa.proofs.Decimal.{decimal_two}
use Rattle.bale_types.proofs.digits.two_digits.Goals as goal

pub returns-then-n-lt10 : goal.returns-then-n-lt10
returns-then-n-lt10 c = record {
  bytes =
      c.digit.ensures.bytes ∙ ap (λ ds. take c.args.at c.args.buffer.now ++ ds) (sym (decimal_digit c.args.n c.if-n-lt10.true));
  bound = grind (arith, common_steps);
  len = search rules;
}

pub returns : goal.returns
returns c = record {
  bytes =
      c.pair.ensures.bytes ∙ ap (λ ds. take c.args.at c.args.buffer.now ++ ds) (sym (decimal_two c.args.n c.if-n-lt10.false c.requires.few));
  bound = grind (arith, common_steps);
  len = search rules;
}
