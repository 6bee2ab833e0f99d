use Rattle.std.proofs.Common.{rules}
use Rattle.mtx_text.proofs.PlainLines.{minus_last}
use Rattle.mtx_text.proofs.plain.last_word.Goals as goal

pub returns : goal.returns
returns c =
    let digits = c.in_ok-digits-2.digits in
    minus_last c.args.text.now c.behind.result.now digits.len digits.next digits.size c.in_ok-digits-2.ensures c.behind.ensures (search rules)
