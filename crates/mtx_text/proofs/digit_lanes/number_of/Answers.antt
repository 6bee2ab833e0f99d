use Rattle.std.proofs.Common.{◌∙◌, ap, sym, subst}
use Rattle.mtx_text.specs.code.PlainLines.{NumberTo}
use Rattle.mtx_text.proofs.DigitLanes.{front_is, padded, shifted}
use Rattle.mtx_text.proofs.digit_lanes.number_of.Goals as goal

pub returns : goal.returns
returns c =
    let text = c.args.text.now in
    let len = c.args.len in
    let f = front_is text len c.requires.room c.requires.full c.requires.few c.requires.digits in
    let is = c.value_of.ensures (padded text len) f.small (ap (λ w. shifted w len) c.front_word.ensures ∙ f.word) in
    subst (NumberTo text len) (sym is) f.number
