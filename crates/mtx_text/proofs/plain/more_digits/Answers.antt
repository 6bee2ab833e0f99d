use Rattle.std.proofs.Common.{◌≡◌, ◌-◌, ◌<◌, true, length, get_or, rules, arith}
use Rattle.std.specs.Char.{is_ascii_digit}
use Rattle.mtx_text.proofs.PlainLines.{digit_more, digit_small, unwrapped}
use Rattle.mtx_text.proofs.plain.more_digits.Goals as goal

pub loop-i-preserved : goal.loop-i-preserved
loop-i-preserved c =
    let text = c.args.text.now in
    let here : c.loop-i.i < length text = omega arith in
    let digit : is_ascii_digit (get_or text c.loop-i.i 0) ≡ true = search rules in
    digit_more text c.loop-i.i c.loop-i.size _ here digit (λ small. unwrapped c.loop-i.size (get_or text c.loop-i.i 0 - 48) small (digit_small (get_or text c.loop-i.i 0) digit)) c.loop-i.invariant
