use Rattle.std.proofs.Common.{◌≡◌, ◌+◌, ◌/◌, ◌%◌, [], ◌∷◌, ◌++◌, take, arith, ap, sym, append_assoc, ◌∙◌, rules}
use Rattle.std.proofs.lemmas.Grind.{common_steps}
use Rattle.std.specs.Fmt.{decimal}
use Rattle.itoa.proofs.Decimal.{pair}
use Rattle.bale_types.proofs.FourDigits.{of_five, two_and_two}
use Rattle.bale_types.proofs.digits.five_digits.Goals as goal

pub returns : goal.returns
returns c = record {
  bytes =
      let n = c.args.n in
      let old = take c.args.at c.args.buffer.now in
      let top = (48 + n / 10000) ∷ [] in
      let first = pair (n % 10000 / 100) in
      let last = pair (n % 10000 % 100) in
      let middle : take (c.args.at + 3) c.pair.new.buffer ≡ old ++ (top ++ first) =
      ap (λ k. take k c.pair.new.buffer) (omega arith) ∙ c.pair.ensures.bytes ∙ ap (λ ds. ds ++ first) c.digit.ensures.bytes ∙ append_assoc old top first in
      let all : decimal n ≡ (top ++ first) ++ last =
      of_five n c.requires.many c.requires.few ∙ ap (λ ds. (48 + n / 10000) ∷ ds) (sym (two_and_two (n % 10000))) in
      ap (λ k. take k c.pair-2.new.buffer) (omega arith)
      ∙ c.pair-2.ensures.bytes
      ∙ ap (λ ds. ds ++ last) middle
      ∙ append_assoc old (top ++ first) last
      ∙ ap (λ ds. old ++ ds) (sym all);
  bound = grind (arith, common_steps);
  len = search rules;
}
