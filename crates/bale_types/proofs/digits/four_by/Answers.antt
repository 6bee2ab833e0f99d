use Rattle.std.proofs.Common.{◌++◌, take, ap, sym, ◌∙◌, arith, rules}
use Rattle.std.proofs.lemmas.Grind.{common_steps}
use Rattle.bale_types.proofs.FourDigits.{of_four}
use Rattle.bale_types.proofs.digits.four_by.Goals as goal

pub returns : goal.returns
returns c = record {
  bytes =
      c.look.ensures.bytes ∙ ap (λ ds. take c.args.at c.args.buffer.now ++ ds) (sym (of_four c.args.n c.requires.many c.requires.few));
  bound = grind (arith, common_steps);
  len = search rules;
}
