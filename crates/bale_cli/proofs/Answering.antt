-- What is known of an answer, by the way that it took: refused by the words, by the subject, or
-- run.
use Rattle.std.proofs.Common.{ℕ, ◌≡◌, ◌≢◌, ◌⊎◌, Bool, true, false, not, is_some, List, Option, None, Some, Result, Ok, Err, OnErr, IfOk, IfErr, drop, refl, sym, ap, subst, ◌∙◌, inl, inr}
use Rattle.std.proofs.lemmas.Bool.{false≢true}
use Rattle.std.proofs.lemmas.Option.{none-some, same_Some}
use Rattle.bale_types.specs.Stream.{taken_with, IsTakenPrefix}
use Rattle.bale_items.specs.Counters.{RoseOrFull}
use Rattle.bale_types.proofs.Moves.{front_same}
use Rattle.bale_words.specs.declared.command.Command.{Command}
use Rattle.bale_words.specs.declared.command.Generated.{Generated}
use Rattle.rank_group.specs.declared.closed_round.ClosedRound.{ClosedRound}
use Rattle.bale_runs.specs.declared.exchange.RunEnd.{RunEnd}
use Rattle.bale_subjects.specs.declared.refusal.BadText.{BadText}
use Rattle.bale_subjects.specs.declared.refusal.Refusal.{Refusal}
use Rattle.bale_subjects.specs.declared.refusal.Refusal.TheVariants as refusal
use Rattle.bale_subjects.specs.declared.subject.Subject.{Subject}
use Rattle.bale_subjects.specs.declared.unfit.Unfit.{Unfit}
use Rattle.bale_answers.specs.Answer.{Asked}
use Rattle.bale_subjects.specs.Reading.{reads, HasText, SourceHad, IsSubjectOf}
use Rattle.bale_subjects.specs.Refusals.{IsOfText}
use Rattle.bale_runs.specs.Reports.{ReportsCommand}
use Rattle.bale_runs.specs.RunEnds.{IsRunEnd}
use Rattle.bale_subjects.specs.Fitness.{unfitness}
use Rattle.bale_cli.specs.Outcomes.{Answered}
use Rattle.bale_subjects.specs.Subjects.{subject_asked}
use Rattle.bale_words.specs.Ranges.{InRanges}
use Rattle.bale_cli.proofs.AnswerEnds.{before_text}

-- what holds of a result that is there
pub both_ok : {T E : Type 0} (r : Result T E) (P Q : T → Type 0) → IfOk r P → IfOk r Q → IfOk r (λ x. P x × Q x)
both_ok (Ok x) P Q p q = (p, q)
both_ok (Err e) P Q p q = tt

pub ok_where : {T E : Type 0} (r : Result T E) (P : Type 0) (Q : T → Type 0) → (P → IfOk r Q) → IfOk r (λ x. P → Q x)
ok_where (Ok x) P Q f = f
ok_where (Err e) P Q f = tt

abbrev pub err : {T : Type 0} → Refusal → Result T Refusal
err r = Err r

abbrev pub ok : Subject → Result Subject Refusal
ok s = Ok s

abbrev err_or : {T : Type 0} → Refusal → Result T Refusal → Refusal
err_or d (Ok x) = d
err_or d (Err r) = r

abbrev ok_or : Subject → Result Subject Refusal → Subject
ok_or d (Ok s) = s
ok_or d (Err r) = d

pub same_Err : {T : Type 0} (r s : Refusal) → err {T = T} r ≡ err s → r ≡ s
same_Err r s e = ap (err_or r) e

same_Ok : (a b : Subject) → ok a ≡ ok b → a ≡ b
same_Ok a b e = ap (ok_or a) e

front_kept : {K : Type 0} (taken : K → Option (List ℕ)) {out out' : K} → out' ≡ out → IsTakenPrefix (taken out) (taken out')
front_kept taken {out = out} e = subst (λ k. IsTakenPrefix (taken out) (taken k)) (sym e) (front_same (taken out))

-- a refusal of the words is of no other kind
of_words : (r s : Refusal) → (r ≡ refusal.Usage) ⊎ (r ≡ refusal.NoMemory) → r ≡ s → (s ≡ refusal.Usage) ⊎ (s ≡ refusal.NoMemory)
of_words r s (inl u) e = inl (sym e ∙ u)
of_words r s (inr n) e = inr (sym e ∙ n)

no_bad : (b : BadText) → (refusal.BadText b ≡ refusal.Usage) ⊎ (refusal.BadText b ≡ refusal.NoMemory) → ⊥
no_bad b (inl e) = cc
no_bad b (inr e) = cc

no_unfit : (u : Unfit) → (refusal.Unfit u ≡ refusal.Usage) ⊎ (refusal.Unfit u ≡ refusal.NoMemory) → ⊥
no_unfit u (inl e) = cc
no_unfit u (inr e) = cc

no_read : (refusal.ReadFault ≡ refusal.Usage) ⊎ (refusal.ReadFault ≡ refusal.NoMemory) → ⊥
no_read (inl e) = cc
no_read (inr e) = cc

no_write : (refusal.WriteFault ≡ refusal.Usage) ⊎ (refusal.WriteFault ≡ refusal.NoMemory) → ⊥
no_write (inl e) = cc
no_write (inr e) = cc

-- what was asked is this command, of this subject
pub same_asked : {serial : Command → Bool} {left : Option (List ℕ)} (c : Command) (s : Subject) (text : List ℕ) (c' : Command) (s' : Subject)
    → ((text : List ℕ) → SourceHad (Some c) left text → subject_asked c text ≡ Ok s) → Asked serial left (Some c) text c' s' → (c ≡ c') × (s ≡ s')
same_asked {left = left} c s text c' s' subject a =
    let e : c ≡ c' = same_Some c c' a.asked in
    let told : HasText c.travel.generated left text = subst (λ (x : Command). HasText x.travel.generated left text) (sym e) a.told in
    let read : subject_asked c' text ≡ Ok s = subst (λ (x : Command). subject_asked x text ≡ Ok s) e (subject text told) in
    (e, same_Ok s s' (sym read ∙ a.subject))

-- what was asked, of another spelling of the job
pub asked_at : {serial : Command → Bool} {left : Option (List ℕ)} {job job' : Option Command} {text : List ℕ} {c : Command} {s : Subject} → job ≡ job' → Asked serial left job text c s → Asked serial left job' text c s
asked_at {serial = serial} {left = left} {text = text} {c = c} {s = s} e a = subst (λ (j : Option Command). Asked serial left j text c s) e a

module _ {S K : Type 0} {serial : Command → Bool} {turns : Command → Subject → List ClosedRound → Type 0} {left : S → Option (List ℕ)} {read_faults : S → ℕ} {source source' : S}
    {taken : K → Option (List ℕ)} {write_faults : K → ℕ} {out out' : K} where
  -- refused by the words, before anything was read
  pub early : (job : Option Command) (r : Refusal) → (r ≡ refusal.Usage → job ≡ None) → (r ≡ refusal.Usage) ⊎ (r ≡ refusal.NoMemory) → source' ≡ source → out' ≡ out
      → Answered serial turns job left read_faults source source' taken write_faults out out' (Err r)
  early job r u kinds same_source same_out =
      record {
        usage = λ e. u (same_Err r refusal.Usage e);
        no_command = λ none. kinds;
        read_fault = λ e. absurd (no_read (of_words r refusal.ReadFault kinds (same_Err r refusal.ReadFault e)));
        no_read_fault = λ other. ap read_faults same_source;
        bad = λ text b told e. absurd (no_bad b (of_words r (refusal.BadText b) kinds (same_Err r (refusal.BadText b) e)));
        bad_read = λ b e. absurd (no_bad b (of_words r (refusal.BadText b) kinds (same_Err r (refusal.BadText b) e)));
        unfit = λ x e. absurd (no_unfit x (of_words r (refusal.Unfit x) kinds (same_Err r (refusal.Unfit x) e)));
        kinds = λ e. no_write (of_words r refusal.WriteFault kinds e);
        ran = tt;
        low = tt;
        write_fault = tt;
        no_write_fault = tt;
        held = front_kept taken same_out;
        unread = λ none. same_source;
        read_whole = λ text told r. tt;
        read_bad = λ text told rd of_text. absurd (before_text r kinds of_text);
        no_answer = same_out;
      }

  -- the same of another spelling of the job
  pub at_job : {answered : Result RunEnd Refusal} (job job' : Option Command) → job ≡ job' → Answered serial turns job' left read_faults source source' taken write_faults out out' answered
      → Answered serial turns job left read_faults source source' taken write_faults out out' answered
  at_job {answered = answered} job job' e a = subst (λ (j : Option Command). Answered serial turns j left read_faults source source' taken write_faults out out' answered) (sym e) a

  -- refused by the subject, or by the reading of it
  pub subject_refused : (c : Command) (r : Refusal) → (r ≡ refusal.ReadFault → RoseOrFull (read_faults source) (read_faults source'))
      → (r ≢ refusal.ReadFault → read_faults source' ≡ read_faults source)
      → ((text : List ℕ) (b : BadText) → SourceHad (Some c) (left source) text → r ≡ refusal.BadText b → subject_asked c text ≡ Err (refusal.BadText b))
      → ((b : BadText) → r ≡ refusal.BadText b → reads (Some c) ≡ true)
      → ((u : Unfit) → r ≡ refusal.Unfit u → (s : Subject) × IsSubjectOf c (left source) s × (unfitness c s (serial c) ≡ Some u))
      → (r ≢ refusal.WriteFault) × (r ≢ refusal.Usage) → (reads (Some c) ≡ false → source' ≡ source)
      → ((text : List ℕ) → left source ≡ Some text → reads (Some c) ≡ true → IsOfText r → left source' ≡ Some (drop 16777217 text)) → out' ≡ out
      → Answered serial turns (Some c) left read_faults source source' taken write_faults out out' (Err r)
  subject_refused c r fault no_fault bad bad_read unfit kinds unread read_bad same_out =
      record {
        usage = λ e. absurd (kinds.1 (same_Err r refusal.Usage e));
        no_command = λ none. absurd (none-some c (sym none));
        read_fault = λ e. fault (same_Err r refusal.ReadFault e);
        no_read_fault = λ other. no_fault (λ e. other (ap (λ (x : Refusal). Err x) e));
        bad = λ text b told e. record { command = c; asked = refl; why = bad text b told (same_Err r (refusal.BadText b) e) };
        bad_read = λ b e. bad_read b (same_Err r (refusal.BadText b) e);
        unfit = λ u e.
            let w = unfit u (same_Err r (refusal.Unfit u) e) in
            record { command = c; asked = refl; subject = w.0; is = w.1; why = u; unfit = w.2; says = refl };
        kinds = kinds.0;
        ran = tt;
        low = tt;
        write_fault = tt;
        no_write_fault = tt;
        held = front_kept taken same_out;
        unread = unread;
        read_whole = λ text told r. tt;
        read_bad = read_bad;
        no_answer = same_out;
      }

  -- run, and the answer was written, or memory was wanting
  pub ran_answered : (answered : Result RunEnd Refusal) (c : Command) (s : Subject) → InRanges c
      → IsSubjectOf c (left source) s → unfitness c s (serial c) ≡ None
      → read_faults source' ≡ read_faults source → (reads (Some c) ≡ false → source' ≡ source)
      → ((text : List ℕ) → left source ≡ Some text → reads (Some c) ≡ true → left source' ≡ Some (drop 16777217 text))
      → IsRunEnd c s (ReportsCommand (serial c) c s) taken write_faults out out' answered → IfOk answered (λ f. turns c s f.rounds)
      → Answered serial turns (Some c) left read_faults source source' taken write_faults out out' answered
  ran_answered (Ok f) c s ranges subject fits calm unread whole finish turned =
      let wrote = finish.ending.answer in
      record {
        usage = λ e. absurd cc;
        no_command = λ none. absurd (none-some c (sym none));
        read_fault = λ e. absurd cc;
        no_read_fault = λ other. calm;
        bad = λ text b told e. absurd cc;
        bad_read = λ b e. absurd cc;
        unfit = λ u e. absurd cc;
        kinds = tt;
        ran = record {
          command = c;
          asked = refl;
          subject = s;
          is = subject;
          fits = fits;
          bytes = wrote.bytes;
          answers = wrote.answers;
          wrote = (finish.ending.status, wrote.whole, wrote.front);
          rounds_report = finish.rounds;
          turned = turned;
        };
        low = finish.ending.low;
        write_fault = finish.ending.cause;
        no_write_fault = finish.ending.no_fault;
        held = finish.ending.held;
        unread = unread;
        read_whole = λ text told r. whole text told r;
        read_bad = λ text told r. tt;
        no_answer = tt;
      }
  ran_answered (Err r) c s ranges subject fits calm unread whole finish turned =
      let memory = finish.memory in
      let kinds : (r ≡ refusal.Usage) ⊎ (r ≡ refusal.NoMemory) = inr memory in
      record {
        usage = λ e. absurd (no_usage (sym memory ∙ same_Err r refusal.Usage e));
        no_command = λ none. absurd (none-some c (sym none));
        read_fault = λ e. absurd (no_read (of_words r refusal.ReadFault kinds (same_Err r refusal.ReadFault e)));
        no_read_fault = λ other. calm;
        bad = λ text b told e. absurd (no_bad b (of_words r (refusal.BadText b) kinds (same_Err r (refusal.BadText b) e)));
        bad_read = λ b e. absurd (no_bad b (of_words r (refusal.BadText b) kinds (same_Err r (refusal.BadText b) e)));
        unfit = λ x e. absurd (no_unfit x (of_words r (refusal.Unfit x) kinds (same_Err r (refusal.Unfit x) e)));
        kinds = λ e. no_write (of_words r refusal.WriteFault kinds e);
        ran = tt;
        low = tt;
        write_fault = tt;
        no_write_fault = tt;
        held = front_kept taken finish.no_answer;
        unread = unread;
        read_whole = λ text told r. tt;
        read_bad = λ text told rd of_text. absurd (before_text r kinds of_text);
        no_answer = finish.no_answer;
      }
    where
      no_usage : refusal.NoMemory ≡ refusal.Usage → ⊥
      no_usage e = cc

-- where the only refusal is want of memory
pub memory_only : (P : Type 0) (answered : Result RunEnd Refusal) → IfErr answered (λ r. r ≡ refusal.NoMemory) → IfErr answered (λ r. r ≢ refusal.NoMemory → P)
memory_only P (Ok f) memory = tt
memory_only P (Err r) memory = λ other. absurd (other memory)

-- a command whose matrix is generated reads nothing
pub generated_unread : (c : Command) (g : Generated) → c.travel.generated ≡ Some g → reads (Some c) ≡ true → ⊥
generated_unread c g e r = false≢true (sym (ap (λ o. not (is_some o)) e) ∙ r)
