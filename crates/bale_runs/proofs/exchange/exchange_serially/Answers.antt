use Rattle.std.proofs.Common.{List, true}
use Rattle.rank_group.specs.declared.closed_round.ClosedRound.{ClosedRound}
use Rattle.bale_runs.specs.Jobs.{manner_for}
use Rattle.route_tensor.specs.Grid.{ranks}
use Rattle.bale_answers.specs.Tasks.{starts_of}
use Rattle.bale_runs.specs.Runs.{made_for, RecordsTask, FewestOfTask, SweptInOrder}
use Rattle.bale_runs.proofs.Cases.{finish, always, rounds_as}
use Rattle.bale_runs.proofs.exchange.exchange_serially.Goals as goal

pub returns-clause-finish : goal.returns-clause-finish
returns-clause-finish g c =
    finish c.args.command.now c.args.subject.now
    (λ (rs : List ClosedRound). RecordsTask c.args.command.now.task c.args.subject.now (made_for true c.args.command.now) (manner_for c.args.command.now) rs)
    g.K.Sink.taken g.K.Sink.faults c.args.out.now c.finish_run.new.out c.finish_run.result c.finish_run.ensures c.in_ok-run.ensures.run.rounds

pub returns-clause-fewest : goal.returns-clause-fewest
returns-clause-fewest g c =
    always c.finish_run.result (FewestOfTask c.args.command.now.task c.args.subject.now c.args.command.now.grid c.args.steps.now c.drive_serially.new.steps) c.in_ok-run.ensures.fewest

pub returns-clause-swept : goal.returns-clause-swept
returns-clause-swept g c =
    rounds_as
    (λ (rs : List ClosedRound). SweptInOrder (starts_of c.args.command.now.task (ranks c.args.command.now.grid) c.args.subject.now) (made_for true c.args.command.now) (manner_for c.args.command.now)
    c.args.steps.now c.drive_serially.new.steps rs)
    c.finish_run.result c.finish_run.ensures.rounds c.in_ok-run.ensures.swept
