use Rattle.std.proofs.Common.{◌≡◌, Bool, false, Some, None, Err, refl, ap, subst}
use Rattle.bale_subjects.specs.declared.subject.Subject.{Subject}
use Rattle.bale_subjects.specs.declared.refusal.Refusal.{Refusal}
use Rattle.bale_subjects.specs.declared.refusal.Refusal.TheVariants as refusal
use Rattle.bale_subjects.specs.declared.unfit.Unfit.{Unfit}
use Rattle.bale_subjects.specs.Reading.{IsSubjectOf}
use Rattle.bale_subjects.specs.Fitness.{unfitness}
use Rattle.bale_runs.specs.Reports.{NotifiedOfEpochs}
use Rattle.bale_runs.specs.Jobs.{as_asked}
use Rattle.bale_cli.proofs.Answering.{ok_where, subject_refused, ran_answered, same_Err}
use Rattle.bale_cli.proofs.calls.answer_of.Goals as goal

pub returns-in-Ok : goal.returns-in-Ok
returns-in-Ok g c =
    ran_answered c.run_command.result c.args.command.now c.in-Ok.subject c.requires.ranges c.in-Ok.ensures.subject
    (subst (λ (b : Bool). unfitness c.args.command.now c.in-Ok.subject b ≡ None) c.drives_serially-serial.ensures c.in-Ok.ensures.fits) (c.in-Ok.ensures.faults.no_fault (λ e. cc)) c.subject_for.ensures.unread
    c.in-Ok.ensures.read_whole c.run_command.ensures.finish
    (ok_where c.run_command.result (as_asked c.args.command.now ≡ false) (λ f. NotifiedOfEpochs c.args.command.now.grid (g.G.Gate.notified c.args.gate.now) f.rounds) c.run_command.ensures.notified)

pub returns-in-Err : goal.returns-in-Err
returns-in-Err g c =
    subject_refused c.args.command.now c.in-Err.refusal (λ e. c.in-Err.ensures.faults.cause (ap (λ (r : Refusal). Err r) e))
    (λ other. c.in-Err.ensures.faults.no_fault (λ e. other (same_Err c.in-Err.refusal refusal.ReadFault e)))
    (λ text b told e. c.in-Err.ensures.bad text b told (ap (λ (r : Refusal). Err r) e))
    (λ b e. c.in-Err.ensures.bad_read b (ap (λ (r : Refusal). Err r) e))
    (subst (λ (s : Bool). (u : Unfit) → c.in-Err.refusal ≡ refusal.Unfit u
    → (x : Subject) × IsSubjectOf c.args.command.now (g.S.Source.left c.args.source.now) x × (unfitness c.args.command.now x s ≡ Some u)) c.drives_serially-serial.ensures
    (λ u e. c.in-Err.ensures.unfit u (ap (λ (r : Refusal). Err r) e)))
    c.in-Err.ensures.kinds c.subject_for.ensures.unread c.in-Err.ensures.read_bad refl
