use Rattle.bale_cli.proofs.Outcomes.{is_run}
use Rattle.bale_cli.proofs.calls.run.Goals as goal

pub returns : goal.returns
returns g c = record { run = is_run _ _ _ _ _ _ _ _ _ _ _ _ _ _ _ _ _ c.answer-answered.result c.answer-answered.ensures c.outcome_of.ensures }
