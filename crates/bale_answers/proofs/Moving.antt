-- The new numbers of rows and columns that fit are permutations.
use Rattle.std.proofs.Common.{◌≡◌, Bool, true, false, not, Option, None, Some, if◌then◌else◌, refl, sym}
use Rattle.std.proofs.lemmas.Option.{none-some}
use Rattle.mtx_text.specs.Seeds.{seeded, permutation_of}
use Rattle.mtx_text.specs.Sparse.{Sparse}
use Rattle.bale_words.specs.declared.command.Permutations.{Permutations}
use Rattle.bale_words.specs.declared.command.Permutations.TheVariants.{Lists, Seed}
use Rattle.bale_words.specs.declared.task.Task.TheVariants as task
use Rattle.bale_subjects.specs.Fitness.{task_unfitness}
use Rattle.bale_subjects.specs.Numberings.{numbers_all}
use Rattle.bale_subjects.proofs.Renumbering.{drawn_permutes, new_permutes}
use Rattle.bale_answers.specs.Needs.{CanMove}

-- a test that doesn't fail
passes : {X : Type 0} (b : Bool) (x : X) (rest : Option X) → (if not b then Some x else rest) ≡ None → (b ≡ true) × (rest ≡ None)
passes true x rest h = (refl, h)
passes false x rest h = absurd (none-some x (sym h))

-- the new numbers of a task that fits are permutations
pub moves : (p : Permutations) (m : Sparse) (serial : Bool) → task_unfitness (task.Permute p) m serial ≡ None → CanMove p m
moves (Seed seed) m serial h = (drawn_permutes m.rows (seeded seed), drawn_permutes m.cols (permutation_of m.rows (seeded seed)).1)
moves (Lists rows cols) m serial h =
    let a = passes (numbers_all m.rows rows) _ _ h in
    let b = passes (numbers_all m.cols cols) _ _ a.1 in
    (new_permutes m.rows rows a.0, new_permutes m.cols cols b.0)
