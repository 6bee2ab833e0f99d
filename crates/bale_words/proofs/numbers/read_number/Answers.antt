use Rattle.std.proofs.Common.{rules, ◌∙◌, refl}
use Rattle.bale_words.proofs.Ranges.{digit_more, digits_more}
use Rattle.bale_words.proofs.numbers.read_number.Goals as goal

pub loop-byte-preserved : goal.loop-byte-preserved
loop-byte-preserved c = record {
  digits = digits_more _ _ _ c.loop-byte-test.true refl (search rules) c.loop-byte.invariant.digits;
  value = c.min-value.ensures ∙ digit_more _ _ _ _ c.loop-byte-test.true refl (search rules) c.loop-byte.invariant.value;
}
