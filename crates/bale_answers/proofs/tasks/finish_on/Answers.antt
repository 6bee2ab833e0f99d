use Rattle.std.proofs.Common.{◌≡◌, None, subst}
use Rattle.bale_words.specs.declared.task.Task.{Task}
use Rattle.bale_subjects.specs.Fitness.{task_unfitness}
use Rattle.bale_answers.proofs.Moving.{moves}
use Rattle.bale_answers.proofs.tasks.finish_on.Goals as goal

pub finish_as-requires-in-Permute-clause-needs : goal.finish_as-requires-in-Permute-clause-needs
finish_as-requires-in-Permute-clause-needs g c =
    moves c.in-Permute.by c.args.m.now c.requires.fit.fits.0 (subst (λ (t : Task). task_unfitness t c.args.m.now c.requires.fit.fits.0 ≡ None) c.in-Permute.is c.requires.fit.fits.1)
