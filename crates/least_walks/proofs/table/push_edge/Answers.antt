use Rattle.std.proofs.Common.{length, refl}
use Rattle.std.proofs.lemmas.Option.{slice_get_read}
use Rattle.least_walks.proofs.Spans.{pushed_edge}
use Rattle.least_walks.proofs.table.push_edge.Goals as goal

pub returns-clause-pushed : goal.returns-clause-pushed
returns-clause-pushed c =
    let old = c.args.edges.now.items in
    let spans = c.args.spans.now.items in
    let last = c.in_ok-span.ensures in
    pushed_edge old c.last_span.new.edges.items c.push.new.self.items spans c.args.place c.index.result.now c.in_ok-span.span c.args.edge last.added c.requires.within
    (slice_get_read spans (length spans) c.args.place c.index.result.now refl c.requires.inside c.index.ensures) last.same last.last.0 last.last.1 c.in_ok-push.ensures.items
