use Rattle.std.proofs.Common.{arith}
use Rattle.least_walks.proofs.Spans.{copied}
use Rattle.least_walks.proofs.table.last_span.Goals as goal

pub loop-k-preserved : goal.loop-k-preserved
loop-k-preserved c =
    copied c.args.edges.now.items c.loop-k.edges.items c.push.new.self.items c.args.span.from c.loop-k.k c.index.result.now c.index.result.now
    (omega arith) (omega (arith, c.requires.within.0, c.requires.within.1)) c.loop-k.invariant c.index.ensures c.in_ok-push.ensures.items
