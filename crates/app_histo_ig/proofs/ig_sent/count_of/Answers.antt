use Rattle.std.proofs.Common.{◌≡◌, length, arith, sym, ap, ◌∙◌}
use Rattle.std.specs.Prelude.{vec_len}
use Rattle.app_histo_ig.proofs.IgSent.{sent_early, count_own, sent_replies, sent_late}
use Rattle.app_histo_ig.proofs.ig_sent.count_of.Goals as goal

pub returns-then-round-lt2 : goal.returns-then-round-lt2
returns-then-round-lt2 c = λ ranks replies asked.
    let own = c.args.own.now.items in
    let size : vec_len c.args.own.now ≡ length own = omega (arith, c.args.own.now.ok.0) in
    c.len.ensures ∙ (size ∙ sym (ap length (sent_early c.args.round ranks own replies c.if-round-lt2.true) ∙ count_own c.args.round ranks own))

pub returns-then-round-eq2 : goal.returns-then-round-eq2
returns-then-round-eq2 c = λ ranks replies asked.
    asked c.if-round-eq2.true ∙ sym (ap length (sent_replies c.args.round ranks c.args.own.now.items replies c.if-round-eq2.true))

pub returns : goal.returns
returns c = λ ranks replies asked.
    sym (ap length (sent_late c.args.round ranks c.args.own.now.items replies (omega (arith, c.if-round-lt2.false, c.if-round-eq2.false))))
