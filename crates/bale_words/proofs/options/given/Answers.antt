use Rattle.std.proofs.Common.{rules, string_bytes}
use Rattle.bale_words.proofs.Given.{none_here, more_here}
use Rattle.bale_words.proofs.options.given.Goals as goal

pub returns-in_err-waiting-clause-usage : goal.returns-in_err-waiting-clause-usage
returns-in_err-waiting-clause-usage c = λ e.
    none_here string_bytes c.args.words.now c.loop-word.word-index c.word-item.result c.as_str.result.now _ _ _ c.loop-word.invariant c.loop-word-test.true c.word-item.is c.as_str.ensures.value
    (c.read_word.ensures.usage (search rules))

pub loop-word-preserved : goal.loop-word-preserved
loop-word-preserved c =
    more_here string_bytes c.args.words.now c.loop-word.word-index c.word-item.result c.as_str.result.now _ _ _ _ _ c.loop-word.invariant c.loop-word-test.true c.word-item.is c.as_str.ensures.value
    c.in_ok-waiting.ensures.ok
