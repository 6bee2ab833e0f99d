use Rattle.std.proofs.Common.{◌∙◌, arith}
use Rattle.round_examples.proofs.TrafficRuns.{made_more}
use Rattle.measure_threads.proofs.exchange.progs_of.Goals as goal

pub loop-rank-preserved : goal.loop-rank-preserved
loop-rank-preserved g c =
    made_more c.args.ranks c.args.rounds c.loop-rank.rank c.loop-rank.progs c.add.new.self c.in_ok-targets.targets.items c.in_ok-counts.counts.items c.new-in-loop-rank.result (omega (arith, c.ranges.rounds.fits)) c.loop-rank.invariant
    c.loop-rank-test.true (omega (arith, c.in_ok-targets.ensures.count, c.ranges.items.fits)) c.in_ok-targets.ensures.aims (c.new-in-loop-rank.ensures ∙ c.new.ensures) c.in_ok-add.ensures.added
