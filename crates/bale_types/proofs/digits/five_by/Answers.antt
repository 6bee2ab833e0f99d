use Rattle.std.proofs.Common.{◌+◌, ◌/◌, ◌%◌, [], ◌∷◌, ◌++◌, take, arith, ap, sym, append_assoc, ◌∙◌, rules}
use Rattle.std.proofs.lemmas.Grind.{common_steps}
use Rattle.bale_types.specs.Digits.{four}
use Rattle.bale_types.proofs.FourDigits.{of_five}
use Rattle.bale_types.proofs.digits.five_by.Goals as goal

pub returns : goal.returns
returns c = record {
  bytes =
      let n = c.args.n in
      let old = take c.args.at c.args.buffer.now in
      ap (λ k. take k c.look.new.buffer) (omega arith)
      ∙ c.look.ensures.bytes
      ∙ ap (λ ds. ds ++ four (n % 10000)) c.digit.ensures.bytes
      ∙ append_assoc old ((48 + n / 10000) ∷ []) (four (n % 10000))
      ∙ ap (λ ds. old ++ ds) (sym (of_five n c.requires.many c.requires.few));
  bound = grind (arith, common_steps);
  len = search rules;
}
