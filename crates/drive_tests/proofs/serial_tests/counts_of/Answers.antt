use Rattle.std.proofs.Common.{ap, length, ◌∙◌, arith}
use Rattle.drive_tests.proofs.Counted.{counted_more, items_more}
use Rattle.drive_tests.proofs.serial_tests.counts_of.Goals as goal

pub loop-rank-preserved : goal.loop-rank-preserved
loop-rank-preserved c = (
  counted_more c.args.ranks 3 c.loop-rank.rank c.loop-rank.progs c.add.new.self c.in_ok-names.names.items c.in_ok-counts.counts.items c.new.result (omega arith) c.loop-rank.invariant.0 c.loop-rank-test.true c.in_ok-names.ensures.columns
      (omega (arith, c.in_ok-counts.ensures.len, c.in_ok-counts.counts.ok.0)) c.new.ensures c.in_ok-add.ensures.added,
  λ one. items_more c.loop-rank.rank c.loop-rank.progs c.add.new.self c.new.result c.in_ok-add.ensures.added (ap (λ s. s.round) c.new.ensures) (ap (λ s. length s.names) c.new.ensures ∙ c.in_ok-names.ensures.all one) (c.loop-rank.invariant.1 one),
)
