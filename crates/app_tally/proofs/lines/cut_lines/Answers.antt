use Rattle.std.proofs.Common.{drop, rules, refl, subst}
use Rattle.app_tally.proofs.Walked.{CutsAt, walk_long, walk_more}
use Rattle.app_tally.proofs.lines.cut_lines.Goals as goal

pub returns-then-len-gt-MOST_IN_LINE : goal.returns-then-len-gt-MOST_IN_LINE
returns-then-len-gt-MOST_IN_LINE c =
    let cuts : CutsAt (drop c.loop-start.start c.args.text.now) c.piece_len-len.result =
    subst (λ w. CutsAt w c.piece_len-len.result) c.behind.ensures (record { within = c.piece_len-len.ensures.within; before = c.piece_len-len.ensures.before; found = c.piece_len-len.ensures.found }) in
    walk_long c.args.text.now c.loop-start.spans.items c.loop-start.start c.piece_len-len.result _ c.loop-start.invariant c.loop-start-test.true cuts
    (search rules) (search rules)

pub loop-start-preserved : goal.loop-start-preserved
loop-start-preserved c =
    let cuts : CutsAt (drop c.loop-start.start c.args.text.now) c.piece_len-len.result =
    subst (λ w. CutsAt w c.piece_len-len.result) c.behind.ensures (record { within = c.piece_len-len.ensures.within; before = c.piece_len-len.ensures.before; found = c.piece_len-len.ensures.found }) in
    walk_more c.args.text.now c.loop-start.spans.items c.push.new.self.items c.loop-start.start c.min-start.result c.piece_len-len.result _ c.loop-start.invariant c.are_bytes.ensures c.loop-start-test.true cuts
    (search rules) refl refl c.in_ok-push.ensures.items (search rules)
