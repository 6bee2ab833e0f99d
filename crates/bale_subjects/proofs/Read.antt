-- What was read is what is asked.
use Rattle.std.proofs.Common.{◌≡◌, ℕ, Bool, true, false, not, List, Result, Ok, Err, refl, sym, ap, subst}
use Rattle.std.specs.Result.{IsErrAnd}
use Rattle.std.proofs.lemmas.Bool.{false≢true}
use Rattle.app_tally.specs.declared.lines.LinesFault.{LinesFault}
use Rattle.app_tally.specs.declared.lines.LinesFault.TheVariants as fault
use Rattle.app_tally.specs.Texts.{LinesGive}
use Rattle.bale_words.specs.declared.task.Task.{Task}
use Rattle.bale_words.specs.declared.task.Task.TheVariants as task
use Rattle.bale_subjects.specs.declared.refusal.Refusal.{Refusal}
use Rattle.bale_subjects.specs.declared.subject.Subject.{Subject}
use Rattle.bale_subjects.specs.Reading.{IsRead}
use Rattle.bale_subjects.specs.Subjects.{is_tally, lines_refusal, of_lines}

-- a fault of reading lines is refused as such
fault_read : (f : LinesFault) (read : Result (List (List ℕ)) LinesFault) → LinesGive (Err f) read → IsRead (of_lines read) (Err (lines_refusal f))
fault_read fault.Source read g = tt
fault_read (fault.TooLong n) read g = ap of_lines g
fault_read (fault.LineTooLong n) read g = ap of_lines g
fault_read fault.NoMemory read g = tt

pub no_lines_read : (f : LinesFault) (read : Result (List (List ℕ)) LinesFault) (result : Result Subject Refusal) → LinesGive (Err f) read → IsErrAnd result (λ r. r ≡ lines_refusal f)
    → IsRead (of_lines read) result
no_lines_read f read (Ok s) g e = absurd e
no_lines_read f read (Err r) g e = subst (λ (x : Refusal). IsRead (of_lines read) (Err x)) (sym e) (fault_read f read g)

pub a_tally : (t : Task) → is_tally t ≡ true → t ≡ task.Tally
a_tally task.Tally e = refl
a_tally _ e = absurd (false≢true e)

pub not_false : (b : Bool) → not b ≡ false → b ≡ true
not_false true e = refl
not_false false e = absurd (false≢true (sym e))
