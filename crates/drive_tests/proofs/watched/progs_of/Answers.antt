use Rattle.std.proofs.Common.{◌∙◌, arith}
use Rattle.drive_tests.proofs.Counted.{counted_more}
use Rattle.drive_tests.proofs.watched.progs_of.Goals as goal

pub loop-rank-preserved : goal.loop-rank-preserved
loop-rank-preserved c =
    let fits = c.ranges.ranks.fits in
    counted_more c.args.ranks c.args.ranks c.loop-rank.rank c.loop-rank.progs c.add.new.self c.in_ok-names.names.items c.in_ok-counts.counts.items c.new-in-loop-rank.result (omega (arith, fits)) c.loop-rank.invariant c.loop-rank-test.true
    c.in_ok-names.ensures (omega (arith, c.in_ok-counts.ensures.len, c.in_ok-counts.counts.ok.0)) (c.new-in-loop-rank.ensures ∙ c.new.ensures) c.in_ok-add.ensures.added
