use Rattle.app_topo.proofs.topo.TopoProgram.end_round.Goals as goal

pub returns-then-is_empty-2-clause-ended : goal.returns-then-is_empty-2-clause-ended
returns-then-is_empty-2-clause-ended c = c.end_idle_round.ensures c.args.votes

pub returns-clause-ended : goal.returns-clause-ended
returns-clause-ended c = c.in_ok-end_busy_round.ensures.ended c.args.votes
