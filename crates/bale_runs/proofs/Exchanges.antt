-- The words' numbers are a drive's.
use Rattle.std.proofs.Common.{ℕ, ◌≡◌, ◌==◌, ◌&&◌, not, Bool, true, false, cond, length, Option, Some, None, refl, sym, arith, eqb-true}
use Rattle.std.proofs.lemmas.Bool.{false≢true}
use Rattle.port_bank.specs.Port.{IsSlots}
use Rattle.port_bank.specs.Slots.{is_slot_count}
use Rattle.bale_words.specs.declared.command.Command.{Command}
use Rattle.rank_node.specs.declared.via.Via.TheVariants as via
use Rattle.bale_words.specs.declared.command.Transport.{Transport}
use Rattle.bale_words.specs.declared.command.Transport.TheVariants.{Convey, Exstack, Biconvey}
use Rattle.bale_subjects.specs.declared.subject.Subject.{Subject}
use Rattle.bale_subjects.specs.declared.unfit.Unfit.{Unfit}
use Rattle.bale_subjects.specs.declared.unfit.Unfit.TheVariants as unfit
use Rattle.bale_subjects.specs.Fitness.{is_exstack, first_failed, subject_tests, unfitness}
use Rattle.bale_runs.specs.Jobs.{via_of}

pub is_slots : (n : ℕ) → is_slot_count n ≡ true → IsSlots n
unfolding IsSlots
is_slots n h = h

-- what is fit fits its application's tests, and an exstack's grid has one number
fit_parts : (b : Bool) (u : Unfit) (rest : Option Unfit) → cond b (Some u) rest ≡ None → (b ≡ false) × (rest ≡ None)
fit_parts true u rest e = absurd (cc)
fit_parts false u rest e = (refl, e)

pub task_fit : (c : Command) (s : Subject) (serial : Bool) → unfitness c s serial ≡ None → first_failed (subject_tests c.task s serial) ≡ None
task_fit c s serial e = (fit_parts (is_exstack c.travel.transport && not (length c.grid == 1)) unfit.ExstackGrid (first_failed (subject_tests c.task s serial)) e).1

pub fit_grid : (c : Command) (s : Subject) (serial : Bool) → unfitness c s serial ≡ None → via_of c.travel.transport ≡ via.Exstack → length c.grid ≡ 1
fit_grid c s serial e = by c.travel.transport (length c.grid == 1) refl (fit_parts (is_exstack c.travel.transport && not (length c.grid == 1)) unfit.ExstackGrid (first_failed (subject_tests c.task s serial)) e).0 where
  by : (t : Transport) (b : Bool) → (length c.grid == 1) ≡ b → (is_exstack t && not b) ≡ false → via_of t ≡ via.Exstack → length c.grid ≡ 1
  by Exstack true k h v = eqb-true (length c.grid) 1 k
  by Exstack false k h v = absurd (false≢true (sym h))
  by Convey b k h v = absurd (cc)
  by Biconvey b k h v = absurd (cc)
