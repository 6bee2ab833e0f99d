use Rattle.std.proofs.Common.{ap, ◌∙◌}
use Rattle.rank_group.specs.Ranks.{RankState}
use Rattle.rank_group.proofs.Making.{taken_more, taken_all}
use Rattle.rank_group.proofs.ranks.take_progs.Goals as goal

pub loop-rank-preserved : goal.loop-rank-preserved
loop-rank-preserved g c =
    taken_more c.args.all.items c.loop-rank.rank-iterator c.next.new.self c.loop-rank.progs c.add.new.self c.in-Some.rank c.into_prog.result c.loop-rank.invariant c.in-Some.ensures.steps c.in_ok-add.ensures.added
    (c.into_prog.ensures ∙ ap (λ (n : RankState g.row.Q.Denot). n.node.run.prog) c.rank.view_is)

pub returns : goal.returns
returns g c = record { progs = taken_all c.args.all.items c.loop-rank.rank-iterator c.loop-rank.progs c.loop-rank.invariant c.in-None.ensures.steps.0 }
