-- A refusal is known by its status, and what is said of it is what the serial answer says.
use Rattle.std.proofs.Common.{◌≡◌, ◌≤◌, ℕ, Bool, List, Option, None, Some, ◌⊎◌, inl, inr, refl, sym, ap, ◌∙◌, subst, arith}
use Rattle.bale_words.specs.declared.command.Command.{Command}
use Rattle.bale_answers.specs.Tasks.{task_status}
use Rattle.bale_subjects.specs.declared.subject.Subject.{Subject}
use Rattle.bale_subjects.specs.declared.unfit.Unfit.{Unfit as Unfitness}
use Rattle.bale_subjects.specs.declared.refusal.BadText.{BadText as Bad}
use Rattle.bale_subjects.specs.declared.refusal.Refusal.{Refusal}
use Rattle.bale_subjects.specs.declared.refusal.Refusal.TheVariants.{Usage, ReadFault, BadText, Unfit, WriteFault, NoMemory}
use Rattle.bale_answers.specs.Answer.{Answer, IsBad, IsUnfit, refusal_answer, answer_by, answer_for, answer_to, said}
use Rattle.bale_subjects.specs.Reading.{HasText, SourceHad}
use Rattle.rank_group.specs.declared.closed_round.ClosedRound.{ClosedRound}
use Rattle.bale_cli.specs.Run.{HasNotFit, HasRun}
use Rattle.bale_subjects.specs.Refusals.{IsOfText, status_of, refusal_text}

pub not_zero : (r : Refusal) → status_of r ≡ 0 → ⊥
unfolding status_of
not_zero Usage e = omega (arith, e)
not_zero ReadFault e = omega (arith, e)
not_zero (BadText b) e = omega (arith, e)
not_zero (Unfit u) e = omega (arith, e)
not_zero WriteFault e = omega (arith, e)
not_zero NoMemory e = omega (arith, e)

pub not_one : (r : Refusal) → status_of r ≡ 1 → ⊥
unfolding status_of
not_one Usage e = omega (arith, e)
not_one ReadFault e = omega (arith, e)
not_one (BadText b) e = omega (arith, e)
not_one (Unfit u) e = omega (arith, e)
not_one WriteFault e = omega (arith, e)
not_one NoMemory e = omega (arith, e)

pub is_usage : (r : Refusal) → status_of r ≡ 2 → r ≡ Usage
unfolding status_of
is_usage Usage e = refl
is_usage ReadFault e = absurd (omega (arith, e))
is_usage (BadText b) e = absurd (omega (arith, e))
is_usage (Unfit u) e = absurd (omega (arith, e))
is_usage WriteFault e = absurd (omega (arith, e))
is_usage NoMemory e = absurd (omega (arith, e))

pub usage_is : status_of Usage ≡ 2
unfolding status_of
usage_is = refl

pub is_read_fault : (r : Refusal) → status_of r ≡ 3 → r ≡ ReadFault
unfolding status_of
is_read_fault Usage e = absurd (omega (arith, e))
is_read_fault ReadFault e = refl
is_read_fault (BadText b) e = absurd (omega (arith, e))
is_read_fault (Unfit u) e = absurd (omega (arith, e))
is_read_fault WriteFault e = absurd (omega (arith, e))
is_read_fault NoMemory e = absurd (omega (arith, e))

pub read_fault_is : status_of ReadFault ≡ 3
unfolding status_of
read_fault_is = refl

pub is_write_fault : (r : Refusal) → status_of r ≡ 4 → r ≡ WriteFault
unfolding status_of
is_write_fault Usage e = absurd (omega (arith, e))
is_write_fault ReadFault e = absurd (omega (arith, e))
is_write_fault (BadText b) e = absurd (omega (arith, e))
is_write_fault (Unfit u) e = absurd (omega (arith, e))
is_write_fault WriteFault e = refl
is_write_fault NoMemory e = absurd (omega (arith, e))

pub write_fault_is : status_of WriteFault ≡ 4
unfolding status_of
write_fault_is = refl

pub bad_is : (b : Bad) → status_of (BadText b) ≡ 5
unfolding status_of
bad_is b = refl

pub unfit_is : (u : Unfitness) → status_of (Unfit u) ≡ 6
unfolding status_of
unfit_is u = refl

-- where the text is bad by b, the serial answer has status 5 and tells of it
answer_bad : (serial : Command → Bool) (job : Option Command) (text : List ℕ) (b : Bad) → IsBad job text b
    → answer_to serial job text ≡ refusal_answer (BadText b)
answer_bad serial job text b w = ap (λ j. answer_to serial j text) w.asked ∙ ap (answer_for (serial w.command) w.command) w.why

-- where the command doesn't fit its subject, the serial answer has status 6 and says why
answer_unfit : (serial : Command → Bool) (job : Option Command) (text : List ℕ) (u : Unfitness) → IsUnfit serial job text u
    → answer_to serial job text ≡ refusal_answer (Unfit u)
answer_unfit serial job text u w =
    ap (λ j. answer_to serial j text) w.asked
    ∙ (ap (answer_for (serial w.command) w.command) w.read ∙ ap (answer_by (task_status w.command.task w.subject)) w.why)

-- the status of a refusal that no fault explains is the serial answer's
pub status_same : (serial : Command → Bool) (r : Refusal) (job : Option Command) (text : List ℕ)
    → (r ≡ Usage → job ≡ None) → ((b : Bad) → r ≡ BadText b → IsBad job text b) → ((u : Unfitness) → r ≡ Unfit u → IsUnfit serial job text u)
    → (status_of r ≡ 3 → ⊥) → (status_of r ≡ 4 → ⊥) → (status_of r ≡ 7 → ⊥)
    → status_of r ≡ (answer_to serial job text).status
unfolding status_of
status_same serial Usage job text none bad unfit three four seven = ap (λ (c : Option Command). (answer_to serial c text).status) (sym (none refl))
status_same serial ReadFault job text none bad unfit three four seven = absurd (three refl)
status_same serial (BadText b) job text none bad unfit three four seven = ap (λ (a : Answer). a.status) (sym (answer_bad serial job text b (bad b refl)))
status_same serial (Unfit u) job text none bad unfit three four seven = ap (λ (a : Answer). a.status) (sym (answer_unfit serial job text u (unfit u refl)))
status_same serial WriteFault job text none bad unfit three four seven = absurd (four refl)
status_same serial NoMemory job text none bad unfit three four seven = absurd (seven refl)

-- what is said of a refusal
pub said_is : (serial : Command → Bool) (r : Refusal) (job : Option Command) (text : List ℕ)
    → (r ≡ Usage → job ≡ None) → ((b : Bad) → r ≡ BadText b → IsBad job text b) → ((u : Unfitness) → r ≡ Unfit u → IsUnfit serial job text u)
    → said (status_of r) (answer_to serial job text) ≡ refusal_text r
unfolding status_of refusal_text
said_is serial Usage job text none bad unfit = ap (λ (c : Option Command). (answer_to serial c text).err) (none refl)
said_is serial ReadFault job text none bad unfit = refl
said_is serial (BadText b) job text none bad unfit = ap (λ (a : Answer). a.err) (answer_bad serial job text b (bad b refl))
said_is serial (Unfit u) job text none bad unfit = ap (λ (a : Answer). a.err) (answer_unfit serial job text u (unfit u refl))
said_is serial WriteFault job text none bad unfit = refl
said_is serial NoMemory job text none bad unfit = refl

-- a refusal that is neither of words nor of a fault before the answer came after the text was read
pub of_text : (r : Refusal) → (status_of r ≡ 2 → ⊥) → (status_of r ≡ 3 → ⊥) → (status_of r ≡ 7 → ⊥) → IsOfText r
unfolding status_of
of_text Usage two three seven = two refl
of_text ReadFault two three seven = three refl
of_text (BadText b) two three seven = tt
of_text (Unfit u) two three seven = tt
of_text WriteFault two three seven = tt
of_text NoMemory two three seven = seven refl

-- a refusal's status is below 8
pub refusal_low : (r : Refusal) → status_of r ≤ 7
unfolding status_of
refusal_low Usage = omega arith
refusal_low ReadFault = omega arith
refusal_low (BadText b) = omega arith
refusal_low (Unfit u) = omega arith
refusal_low WriteFault = omega arith
refusal_low NoMemory = omega arith

-- of which refusals there is a status 5 or 6
pub is_bad : (r : Refusal) → status_of r ≡ 5 → (b : Bad) × (r ≡ BadText b)
unfolding status_of
is_bad Usage e = absurd (omega (arith, e))
is_bad ReadFault e = absurd (omega (arith, e))
is_bad (BadText b) e = (b, refl)
is_bad (Unfit u) e = absurd (omega (arith, e))
is_bad WriteFault e = absurd (omega (arith, e))
is_bad NoMemory e = absurd (omega (arith, e))

pub is_unfit : (r : Refusal) → status_of r ≡ 6 → (u : Unfitness) × (r ≡ Unfit u)
unfolding status_of
is_unfit Usage e = absurd (omega (arith, e))
is_unfit ReadFault e = absurd (omega (arith, e))
is_unfit (BadText b) e = absurd (omega (arith, e))
is_unfit (Unfit u) e = (u, refl)
is_unfit WriteFault e = absurd (omega (arith, e))
is_unfit NoMemory e = absurd (omega (arith, e))

-- what a source tells of a command's text, by the words
told_for : (job : Option Command) (c : Command) (left : Option (List ℕ)) (text : List ℕ) → job ≡ Some c → SourceHad job left text → HasText c.travel.generated left text
told_for job c left text e t = subst (λ j. SourceHad j left text) e t

-- a run's own status is the serial answer's, where the text is told
pub run_status : {serial : Command → Bool} {turns : Command → Subject → List ClosedRound → Type 0} {job : Option Command} {left : Option (List ℕ)} {P : ℕ → List ℕ → Type 0} {rounds : List ClosedRound} (text : List ℕ)
    (r : HasRun serial turns job left P rounds) → SourceHad job left text → task_status r.command.task r.subject ≡ (answer_to serial job text).status
run_status {serial = serial} {job = job} {left = left} text r t =
    sym (ap (λ (a : Answer). a.status)
    (ap (λ j. answer_to serial j text) r.asked
    ∙ (ap (answer_for (serial r.command) r.command) (r.is.of_text text (told_for job r.command left text r.asked t)) ∙ ap (answer_by (task_status r.command.task r.subject)) r.fits)))

-- why a command doesn't fit, where the text is told
pub unfit_for : {serial : Command → Bool} {job : Option Command} {left : Option (List ℕ)} (text : List ℕ) (u : Unfitness)
    → HasNotFit serial job left (λ why. why ≡ u) → SourceHad job left text → IsUnfit serial job text u
unfit_for {job = job} {left = left} text u n t =
    record { command = n.command; asked = n.asked; subject = n.subject; read = n.is.of_text text (told_for job n.command left text n.asked t); why = n.unfit ∙ ap (λ w. Some w) n.says }

pub memory_is : status_of NoMemory ≡ 7
unfolding status_of
memory_is = refl

-- a refusal that comes before the text is read
pub before_text : (r : Refusal) → (r ≡ Usage) ⊎ (r ≡ NoMemory) → IsOfText r → ⊥
before_text r (inl e) d = subst IsOfText e d
before_text r (inr e) d = subst IsOfText e d
