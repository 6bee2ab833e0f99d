use Rattle.std.proofs.Common.{List, false}
use Rattle.rank_group.specs.declared.closed_round.ClosedRound.{ClosedRound}
use Rattle.bale_runs.specs.Jobs.{manner_for}
use Rattle.bale_runs.specs.Runs.{made_for, RecordsTask}
use Rattle.bale_runs.proofs.Cases.{finish}
use Rattle.bale_runs.proofs.exchange.exchange_on_threads.Goals as goal

pub returns-clause-finish : goal.returns-clause-finish
returns-clause-finish g c =
    finish c.args.command.now c.args.subject.now
    (λ (rs : List ClosedRound). RecordsTask c.args.command.now.task c.args.subject.now (made_for false c.args.command.now) (manner_for c.args.command.now) rs)
    g.K.Sink.taken g.K.Sink.faults c.args.out.now c.finish_run.new.out c.finish_run.result c.finish_run.ensures c.in_ok-run.ensures.run.rounds
