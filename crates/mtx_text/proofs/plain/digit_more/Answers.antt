use Rattle.std.proofs.Common.{◌+◌, ◌*◌, ◌%◌, ◌<◌, get_or, rules, refl, ap}
use Rattle.mtx_text.proofs.PlainLines.{digit_more, digit_from}
use Rattle.mtx_text.proofs.plain.digit_more.Goals as goal

pub returns-clause-more : goal.returns-clause-more
returns-clause-more c =
    let text = c.args.text.now in
    let i = c.args.digits.len in
    let b = get_or text i 0 in
    let byte : b < 256 = search rules in
    let is = digit_from b ((b + 18_446_744_073_709_551_568) % 18_446_744_073_709_551_616) byte refl c.if-digit-gt9.false in
    record {
      more = refl;
      read = digit_more text i c.args.digits.size _ c.requires.within is.0 (λ _. ap (λ d. c.args.digits.size * 10 + d) is.1) c.requires.read;
    }
