use Rattle.std.proofs.Common.{Err, refl, ap, subst}
use Rattle.bale_subjects.specs.declared.subject.Subject.{Subject}
use Rattle.bale_words.specs.declared.command.Command.{Command}
use Rattle.bale_subjects.specs.declared.refusal.Refusal.{Refusal}
use Rattle.bale_subjects.specs.declared.refusal.Refusal.TheVariants as refusal
use Rattle.bale_runs.specs.Asking.{FewestOfCommand, SweptOfCommand, TurnsOfCommand}
use Rattle.bale_cli.proofs.Answering.{both_ok, subject_refused, memory_only, ran_answered, same_asked, same_Err}
use Rattle.bale_runs.proofs.Heard.{no_turns}
use Rattle.bale_cli.proofs.calls.answer_of_serially.Goals as goal

pub returns-in-Ok-clause-answered : goal.returns-in-Ok-clause-answered
returns-in-Ok-clause-answered g c =
    ran_answered c.run_serially.result c.args.command.now c.in-Ok.subject c.requires.ranges c.in-Ok.ensures.subject c.in-Ok.ensures.fits (c.in-Ok.ensures.faults.no_fault (λ e. cc)) c.subject_for.ensures.unread c.in-Ok.ensures.read_whole
    c.run_serially.ensures.finish
    (both_ok c.run_serially.result (λ f. SweptOfCommand c.args.command.now c.in-Ok.subject c.args.steps.now c.run_serially.new.steps f.rounds)
    (λ f. FewestOfCommand c.args.command.now c.in-Ok.subject c.args.steps.now c.run_serially.new.steps) c.run_serially.ensures.swept c.run_serially.ensures.fewest)

pub returns-in-Ok-clause-turns : goal.returns-in-Ok-clause-turns
returns-in-Ok-clause-turns g c =
    record {
      bounded = λ text command m asked.
          let e = same_asked c.args.command.now c.in-Ok.subject text command m c.in-Ok.ensures.subject.of_text asked in
          subst (λ (y : Subject). TurnsOfCommand command y c.args.steps.now c.run_serially.new.steps) e.1
          (subst (λ (x : Command). TurnsOfCommand x c.in-Ok.subject c.args.steps.now c.run_serially.new.steps) e.0 c.run_serially.ensures.steps);
      idle = λ text told none.
          absurd (none c.args.command.now c.in-Ok.subject (record { asked = refl; told = told; subject = c.in-Ok.ensures.subject.of_text text told; fits = c.in-Ok.ensures.fits }));
    }

pub returns-in-Ok-clause-no_turns : goal.returns-in-Ok-clause-no_turns
returns-in-Ok-clause-no_turns g c = memory_only _ c.run_serially.result c.run_serially.ensures.finish.memory

pub returns-in-Err-clause-answered : goal.returns-in-Err-clause-answered
returns-in-Err-clause-answered g c =
    subject_refused c.args.command.now c.in-Err.refusal (λ e. c.in-Err.ensures.faults.cause (ap (λ (r : Refusal). Err r) e))
    (λ other. c.in-Err.ensures.faults.no_fault (λ e. other (same_Err c.in-Err.refusal refusal.ReadFault e)))
    (λ text b told e. c.in-Err.ensures.bad text b told (ap (λ (r : Refusal). Err r) e)) (λ b e. c.in-Err.ensures.bad_read b (ap (λ (r : Refusal). Err r) e))
    (λ u e. c.in-Err.ensures.unfit u (ap (λ (r : Refusal). Err r) e))
    c.in-Err.ensures.kinds c.subject_for.ensures.unread c.in-Err.ensures.read_bad refl

pub returns-in-Err-clause-turns : goal.returns-in-Err-clause-turns
returns-in-Err-clause-turns g c = record { bounded = λ text command m asked. no_turns command m _ _ refl; idle = λ text told none. refl }
