use Rattle.std.proofs.Common.{◌∙◌, ap, sym}
use Rattle.bale_words.specs.declared.task.Task.{Task}
use Rattle.bale_subjects.specs.Fitness.{task_unfitness}
use Rattle.bale_subjects.proofs.unfit.task_unfitness.Goals as goal

pub returns-in-Sssp : goal.returns-in-Sssp
returns-in-Sssp c = c.no_walks.ensures ∙ ap (λ (t : Task). task_unfitness t c.args.m.now c.args.serial) (sym c.in-Sssp.is)
