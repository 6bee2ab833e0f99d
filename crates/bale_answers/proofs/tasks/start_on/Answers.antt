use Rattle.std.proofs.Common.{◌≡◌, None, subst}
use Rattle.bale_words.specs.declared.task.Task.{Task}
use Rattle.bale_subjects.specs.Fitness.{task_unfitness}
use Rattle.bale_answers.proofs.Moving.{moves}
use Rattle.bale_answers.proofs.tasks.start_on.Goals as goal

pub start_as-requires-in-Permute-clause-needs : goal.start_as-requires-in-Permute-clause-needs
start_as-requires-in-Permute-clause-needs c =
    moves c.in-Permute.by c.args.m.now c.requires.fit.fits.0 (subst (λ (t : Task). task_unfitness t c.args.m.now c.requires.fit.fits.0 ≡ None) c.in-Permute.is c.requires.fit.fits.1)
