use Rattle.std.proofs.Common.{◌/◌, ◌%◌, ◌++◌, take, arith, ap, sym, append_assoc, ◌∙◌, rules}
use Rattle.std.proofs.lemmas.Grind.{common_steps}
use Rattle.std.specs.Fmt.{decimal}
use Rattle.itoa.proofs.Decimal.{decimal_pair, pair}
use Rattle.bale_types.proofs.digits.four_digits.Goals as goal

pub returns : goal.returns
returns c = record {
  bytes =
      let n = c.args.n in
      let old = take c.args.at c.args.buffer.now in
      c.pair.ensures.bytes
      ∙ ap (λ ds. ds ++ pair (n % 100)) c.two_digits-next.ensures.bytes
      ∙ append_assoc old (decimal (n / 100)) (pair (n % 100))
      ∙ ap (λ ds. old ++ ds) (sym (decimal_pair n c.requires.many (omega (arith, c.requires.few))));
  bound = grind (arith, common_steps);
  len = search rules;
}
