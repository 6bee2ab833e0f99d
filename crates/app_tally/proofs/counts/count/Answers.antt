use Rattle.list_laws.proofs.Results.{on_ok_map}
use Rattle.app_tally.proofs.Counted.{raised_counts, raised_more, pushed_counts, pushed_more}
use Rattle.app_tally.proofs.counts.count.Goals as goal

pub returns-then-ends_with-clause-counts : goal.returns-then-ends_with-clause-counts
returns-then-ends_with-clause-counts c =
    on_ok_map c.raise_last.result
    (raised_counts c.args.lines.now c.args.times.now.items _ c.args.line.now c.args.more c.requires.counts (c.ends_with.ensures.last c.if-ends_with.true)) c.raise_last.ensures

pub returns-then-ends_with-clause-counted : goal.returns-then-ends_with-clause-counted
returns-then-ends_with-clause-counted c =
    on_ok_map c.raise_last.result
    (raised_more c.args.lines.now c.args.times.now.items _ c.args.line.now c.args.more c.requires.counts (c.ends_with.ensures.last c.if-ends_with.true)) c.raise_last.ensures

pub returns-clause-counts : goal.returns-clause-counts
returns-clause-counts c =
    pushed_counts c.args.lines.now _ c.args.times.now.items _ c.args.line.now c.args.more c.requires.counts c.requires.last (c.ends_with.ensures.other c.if-ends_with.false) c.requires.some c.in_ok-push.ensures.ok c.in_ok-push-2.ensures.items

pub returns-clause-counted : goal.returns-clause-counted
returns-clause-counted c =
    pushed_more c.args.lines.now _ c.args.times.now.items _ c.args.line.now c.args.more c.requires.counts c.requires.last (c.ends_with.ensures.other c.if-ends_with.false) c.requires.some c.in_ok-push.ensures.ok c.in_ok-push-2.ensures.items
