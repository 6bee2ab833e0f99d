use Rattle.std.proofs.Common.{Err, Some, map, string_bytes, refl, ap}
use Rattle.bale_subjects.specs.declared.refusal.Refusal.{Refusal}
use Rattle.bale_words.specs.Words.{command_of}
use Rattle.bale_cli.proofs.Answering.{at_job, early}
use Rattle.bale_cli.proofs.calls.answer.Goals as goal

pub returns-in-Ok : goal.returns-in-Ok
returns-in-Ok g c = at_job (command_of (map string_bytes c.args.words.now)) (Some c.in-Ok.command) c.in-Ok.ensures.command c.answer_of.ensures

pub returns-in-Err : goal.returns-in-Err
returns-in-Err g c =
    early (command_of (map string_bytes c.args.words.now)) c.in-Err.refusal (λ e. c.in-Err.ensures.usage (ap (λ (r : Refusal). Err r) e)) c.in-Err.ensures.kinds refl refl
