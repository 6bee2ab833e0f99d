use Rattle.bale_cli.proofs.Outcomes.{is_run, refusal_only}
use Rattle.bale_cli.proofs.calls.run_serial.Goals as goal

pub returns-clause-run : goal.returns-clause-run
returns-clause-run g c = is_run _ _ _ _ _ _ _ _ _ _ _ _ _ _ _ _ _ c.answer_serially-answered.result c.answer_serially-answered.ensures.answered c.outcome_of.ensures

pub returns-clause-no_turns : goal.returns-clause-no_turns
returns-clause-no_turns g c = refusal_only _ c.answer_serially-answered.result c.answer_serially-answered.ensures.answered c.outcome_of.ensures c.answer_serially-answered.ensures.no_turns
