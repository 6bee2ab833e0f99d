use Rattle.std.proofs.Common.{ap, arith}
use Rattle.drive_tests.specs.Adders.{AdderState}
use Rattle.drive_tests.proofs.Added.{added_more, added_all}
use Rattle.drive_tests.proofs.asking_tests.adders_of.Goals as goal

pub loop-rank-preserved : goal.loop-rank-preserved
loop-rank-preserved c =
    added_more c.args.ranks c.loop-rank.rank c.loop-rank.askers c.add.new.self c.new.result c.loop-rank.invariant
    (ap (λ (s : AdderState). s.rank) c.new.ensures) (ap (λ (s : AdderState). s.ranks) c.new.ensures) c.in_ok-add.ensures.added

pub returns : goal.returns
returns c = added_all c.args.ranks c.loop-rank.rank c.loop-rank.askers c.loop-rank.invariant (omega (arith, c.loop-rank-test.false, c.loop-rank.auto.rank-end))
