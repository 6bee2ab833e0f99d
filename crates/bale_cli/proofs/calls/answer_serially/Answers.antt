use Rattle.std.proofs.Common.{Option, Err, Some, map, string_bytes, refl, sym, ap, subst}
use Rattle.bale_words.specs.declared.command.Command.{Command}
use Rattle.bale_subjects.specs.declared.refusal.Refusal.{Refusal}
use Rattle.bale_words.specs.Words.{command_of}
use Rattle.bale_cli.specs.Run.{AreTurns}
use Rattle.bale_cli.proofs.Answering.{at_job, early}
use Rattle.bale_runs.proofs.Heard.{no_turns}
use Rattle.bale_cli.proofs.calls.answer_serially.Goals as goal

pub returns-in-Ok-clause-answered : goal.returns-in-Ok-clause-answered
returns-in-Ok-clause-answered g c =
    at_job (command_of (map string_bytes c.args.words.now)) (Some c.in-Ok.command) c.in-Ok.ensures.command c.answer_of_serially.ensures.answered

pub returns-in-Ok-clause-turns : goal.returns-in-Ok-clause-turns
returns-in-Ok-clause-turns g c =
    subst (λ (j : Option Command). AreTurns (g.S.Source.left c.args.source.now) j c.args.steps.now c.answer_of_serially.new.steps) (sym c.in-Ok.ensures.command) c.answer_of_serially.ensures.turns

pub returns-in-Err-clause-answered : goal.returns-in-Err-clause-answered
returns-in-Err-clause-answered g c =
    early (command_of (map string_bytes c.args.words.now)) c.in-Err.refusal (λ e. c.in-Err.ensures.usage (ap (λ (r : Refusal). Err r) e)) c.in-Err.ensures.kinds refl refl

pub returns-in-Err-clause-turns : goal.returns-in-Err-clause-turns
returns-in-Err-clause-turns g c = record { bounded = λ text command m asked. no_turns command m _ _ refl; idle = λ text told none. refl }
