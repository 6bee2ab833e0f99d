use Rattle.std.proofs.Common.{rules}
use Rattle.bale_runs.proofs.Exchanges.{task_fit}
use Rattle.bale_runs.proofs.exchange.finish_run.Goals as goal

pub finish_task-requires-clause-fit : goal.finish_task-requires-clause-fit
finish_task-requires-clause-fit g c = record {
  of_kind = search rules;
  ranges = search rules;
  fits = (c.requires.fit.0, task_fit c.args.command.now c.args.subject.now c.requires.fit.0 c.requires.fit.1.fits);
}

pub finish_task-requires-clause-ended : goal.finish_task-requires-clause-ended
finish_task-requires-clause-ended g c =
    let run = c.requires.ended in (run.ranks, run.some, run.few, run.begun, run.ended)
