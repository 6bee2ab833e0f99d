-- The promises of the top calls, from what is known of an answer and of how it is told.
use Rattle.std.proofs.Common.{ℕ, zero, suc, ◌≡◌, ◌≢◌, ◌≤◌, ◌⊎◌, Bool, true, false, List, [], Option, None, Some, Result, Ok, Err, OnOk, OnErr, IfOk, IfErr, ◌<◌, drop, sym, ap, subst, ◌∙◌, arith, inl, inr, refl, IsOk}
use Rattle.bale_types.specs.Stream.{taken_with, IsTakenPrefix}
use Rattle.bale_items.specs.Counters.{RoseOrFull}
use Rattle.bale_types.proofs.Moves.{after-nil, front_same}
use Rattle.rank_group.specs.declared.closed_round.ClosedRound.{ClosedRound}
use Rattle.bale_words.specs.declared.command.Command.{Command}
use Rattle.bale_runs.specs.declared.exchange.RunEnd.{RunEnd}
use Rattle.bale_subjects.specs.declared.refusal.Refusal.{Refusal}
use Rattle.bale_subjects.specs.declared.refusal.Refusal.TheVariants as refusal
use Rattle.bale_answers.specs.Answer.{Answer, answer_to, said}
use Rattle.bale_subjects.specs.Reading.{SourceHad, reads}
use Rattle.bale_subjects.specs.Refusals.{refusal_text, status_of}
use Rattle.bale_words.specs.Words.{command_of}
use Rattle.bale_runs.specs.Reports.{ReportsCommand}
use Rattle.bale_cli.specs.Outcomes.{Answered, IsOutcome}
use Rattle.bale_cli.specs.Run.{HasNotFit, HasRun, IsRun, Says}
use Rattle.bale_cli.proofs.Answering.{same_Err}
use Rattle.bale_cli.proofs.AnswerEnds.{not_zero, not_one, is_usage, usage_is, is_read_fault, read_fault_is, is_write_fault, is_bad, bad_is, is_unfit, unfit_is, status_same, said_is, of_text, memory_is, refusal_low, run_status, unfit_for}
use Rattle.bale_subjects.specs.declared.refusal.BadText.{BadText}
use Rattle.bale_subjects.specs.declared.subject.Subject.{Subject}
use Rattle.bale_subjects.specs.declared.unfit.Unfit.{Unfit}

-- nothing is said of an answer
said_none : (status : ℕ) (answer : Answer) → status ≤ 1 → said status answer ≡ []
said_none zero answer low = refl
said_none (suc zero) answer low = refl
said_none (suc (suc n)) answer low = absurd (omega (arith, low))

-- a result is one of both
record Did {T E : Type 0} (w : Result T E) (P : Type 0) : Type 0 where
  value : T
  is : w ≡ Ok value
  fact : P

record Failed {T E : Type 0} (w : Result T E) (P : Type 0) : Type 0 where
  value : E
  is : w ≡ Err value
  fact : P

split : {T E P Q : Type 0} (w : Result T E) → OnOk w P → OnErr w Q → Did w P ⊎ Failed w Q
split (Ok x) p q = inl (record { value = x; is = refl; fact = p })
split (Err e) p q = inr (record { value = e; is = refl; fact = q })

did : {T E P Q : Type 0} {w : Result T E} → Did w P → OnOk w Q → Q
did {Q = Q} d q = subst (λ w. OnOk w Q) d.is q

failed : {T E P Q : Type 0} {w : Result T E} → Failed w P → OnErr w Q → Q
failed {Q = Q} d q = subst (λ w. OnErr w Q) d.is q

-- an answer that was written has status 0 or 1, one that wasn't 4
ends : {E : Type 0} {said_to : E → Option (List ℕ)} {err_faults : E → ℕ} {err err' : E} {status : ℕ} {rounds : List ClosedRound} (f : RunEnd) → IsOutcome (Ok f) said_to err_faults err err' status rounds
    → Did f.ending.written ((status ≡ f.ending.status) × (status ≤ 1) × (err' ≡ err))
    ⊎ Failed f.ending.written ((status ≡ 4) × (¬ RoseOrFull (err_faults err) (err_faults err') → said_to err' ≡ taken_with (said_to err) (refusal_text refusal.WriteFault)) × IsTakenPrefix (said_to err') (taken_with (said_to err) (refusal_text refusal.WriteFault)))
ends f o = split f.ending.written o.written o.unwritten

low_not : (status n : ℕ) → 1 < n → status ≤ 1 → status ≡ n → ⊥
low_not status n past low e = omega (arith, past, low, e)

four_not : (status n : ℕ) → n ≢ 4 → status ≡ 4 → status ≡ n → ⊥
four_not status n other four e = other (sym e ∙ four)

-- an answer has no other status
no_other : {E : Type 0} {said_to : E → Option (List ℕ)} {err_faults : E → ℕ} {err err' : E} {status : ℕ} {rounds : List ClosedRound} (f : RunEnd) (n : ℕ) → IsOutcome (Ok f) said_to err_faults err err' status rounds
    → 1 < n → n ≢ 4 → status ≡ n → ⊥
no_other {status = status} f n o past other e = elim (ends f o) [ inl w ↦ low_not status n past w.fact.1 e | inr u ↦ four_not status n other u.fact.0 e ]

-- a refusal is neither 0 nor 1 nor 4
not_low : {E : Type 0} {said_to : E → Option (List ℕ)} {err_faults : E → ℕ} {err err' : E} {status : ℕ} {rounds : List ClosedRound} (r : Refusal) → IsOutcome (Err r) said_to err_faults err err' status rounds
    → (status ≡ 0) ⊎ (status ≡ 1) → ⊥
not_low r o low = elim low [ inl nought ↦ not_zero r (sym o.refused.0 ∙ nought) | inr one ↦ not_one r (sym o.refused.0 ∙ one) ]

not_four : {E : Type 0} {said_to : E → Option (List ℕ)} {err_faults : E → ℕ} {err err' : E} {status : ℕ} {rounds : List ClosedRound} (r : Refusal) → r ≢ refusal.WriteFault
    → IsOutcome (Err r) said_to err_faults err err' status rounds → status ≡ 4 → ⊥
not_four r fault o four = fault (is_write_fault r (sym o.refused.0 ∙ four))

-- a status that is none of an answer's is a refusal's
neither : (n : ℕ) → n ≤ 1 → n ≢ 0 → n ≢ 1 → ⊥
neither zero low z o = z refl
neither (suc zero) low z o = o refl
neither (suc (suc n)) low z o = omega (arith, low)

only_refused : {E : Type 0} {said_to : E → Option (List ℕ)} {err_faults : E → ℕ} {err err' : E} {status : ℕ} {rounds : List ClosedRound} (f : RunEnd) → IsOutcome (Ok f) said_to err_faults err err' status rounds
    → status ≢ 0 → status ≢ 1 → status ≢ 4 → ⊥
only_refused {status = status} f o nought one four = elim (ends f o) [ inl w ↦ neither status w.fact.1 nought one | inr u ↦ four u.fact.0 ]

module _ {serial : Command → Bool} {turns : Command → Subject → List ClosedRound → Type 0} {job : Option Command} {S K E : Type 0} {left : S → Option (List ℕ)} {read_faults : S → ℕ} {source source' : S}
    {taken : K → Option (List ℕ)} {write_faults : K → ℕ} {out out' : K} {said_to : E → Option (List ℕ)} {err_faults : E → ℕ} {err err' : E} {status : ℕ}
    {rounds : List ClosedRound} where
  usage : (answered : Result RunEnd Refusal) → Answered serial turns job left read_faults source source' taken write_faults out out' answered → IsOutcome answered said_to err_faults err err' status rounds → status ≡ 2 → job ≡ None
  usage (Ok f) a o two = absurd (no_other f 2 o (omega arith) (λ e. omega (arith, e)) two)
  usage (Err r) a o two = a.usage (ap (λ (x : Refusal). Err x) (is_usage r (sym o.refused.0 ∙ two)))

  no_command : (answered : Result RunEnd Refusal) → Answered serial turns job left read_faults source source' taken write_faults out out' answered → IsOutcome answered said_to err_faults err err' status rounds → job ≡ None → status ≢ 7 → status ≡ 2
  no_command (Ok f) a o none seven = absurd (a.no_command none)
  no_command (Err r) a o none seven =
      elim (a.no_command none) [
        | inl e ↦ o.refused.0 ∙ ap status_of e ∙ usage_is
        | inr e ↦ absurd (seven (o.refused.0 ∙ ap status_of e ∙ memory_is))
      ]

  same_status : (answered : Result RunEnd Refusal) → Answered serial turns job left read_faults source source' taken write_faults out out' answered → IsOutcome answered said_to err_faults err err' status rounds → (text : List ℕ) → SourceHad job (left source) text
      → status ≢ 3 → status ≢ 4 → status ≢ 7 → status ≡ (answer_to serial job text).status
  same_status (Ok f) a o text told three four seven =
      elim (ends f o) [ inl w ↦ w.fact.0 ∙ (a.ran.wrote.0 ∙ run_status text a.ran told) | inr u ↦ absurd (four u.fact.0) ]
  same_status (Err r) a o text told three four seven =
      o.refused.0
      ∙ status_same serial r job text (λ e. a.usage (ap (λ (x : Refusal). Err x) e)) (λ b e. a.bad text b told (ap (λ (x : Refusal). Err x) e))
      (λ u e. unfit_for text u (a.unfit u (ap (λ (x : Refusal). Err x) e)) told) (λ e. three (o.refused.0 ∙ e)) (λ e. four (o.refused.0 ∙ e)) (λ e. seven (o.refused.0 ∙ e))

  read_fault : (answered : Result RunEnd Refusal) → Answered serial turns job left read_faults source source' taken write_faults out out' answered → IsOutcome answered said_to err_faults err err' status rounds → status ≡ 3 → RoseOrFull (read_faults source) (read_faults source')
  read_fault (Ok f) a o three = absurd (no_other f 3 o (omega arith) (λ e. omega (arith, e)) three)
  read_fault (Err r) a o three = a.read_fault (ap (λ (x : Refusal). Err x) (is_read_fault r (sym o.refused.0 ∙ three)))

  write_fault : (answered : Result RunEnd Refusal) → Answered serial turns job left read_faults source source' taken write_faults out out' answered → IsOutcome answered said_to err_faults err err' status rounds → status ≡ 4 → RoseOrFull (write_faults out) (write_faults out')
  write_fault (Ok f) a o four =
      elim (ends f o) [ inl w ↦ absurd (low_not status 4 (omega arith) w.fact.1 four) | inr u ↦ failed u a.write_fault ]
  write_fault (Err r) a o four = absurd (not_four r a.kinds o four)

  -- the source has failed only where that is the answer
  no_read_fault : (answered : Result RunEnd Refusal) → Answered serial turns job left read_faults source source' taken write_faults out out' answered → IsOutcome answered said_to err_faults err err' status rounds
      → status ≢ 3 → read_faults source' ≡ read_faults source
  no_read_fault (Ok f) a o three = a.no_read_fault (λ e. cc)
  no_read_fault (Err r) a o three = a.no_read_fault (λ e. three (o.refused.0 ∙ ap status_of (same_Err r refusal.ReadFault e) ∙ read_fault_is))

  -- the sink has failed only where that is the answer
  no_write_fault : (answered : Result RunEnd Refusal) → Answered serial turns job left read_faults source source' taken write_faults out out' answered → IsOutcome answered said_to err_faults err err' status rounds
      → status ≢ 4 → write_faults out' ≡ write_faults out
  no_write_fault (Ok f) a o four = elim (ends f o) [ inl w ↦ did w a.no_write_fault | inr u ↦ absurd (four u.fact.0) ]
  no_write_fault (Err r) a o four = ap write_faults a.no_answer

  read_whole : (answered : Result RunEnd Refusal) → Answered serial turns job left read_faults source source' taken write_faults out out' answered → IsOutcome answered said_to err_faults err err' status rounds → (text : List ℕ) → left source ≡ Some text → reads job ≡ true
      → status ≢ 3 → status ≢ 7 → left source' ≡ Some (drop 16777217 text)
  read_whole (Ok f) a o text told r three seven = a.read_whole text told r
  read_whole (Err x) a o text told r three seven =
      a.read_bad text told r (of_text x (λ e. no_job (a.usage (ap (λ (y : Refusal). Err y) (is_usage x e))) r) (λ e. three (o.refused.0 ∙ e)) (λ e. seven (o.refused.0 ∙ e)))
    where
      no_job : job ≡ None → reads job ≡ true → ⊥
      no_job none r = (let e : false ≡ true = sym (ap reads none) ∙ r in cc)

  low : (answered : Result RunEnd Refusal) → Answered serial turns job left read_faults source source' taken write_faults out out' answered → IsOutcome answered said_to err_faults err err' status rounds → status ≤ 7
  low (Ok f) a o = elim (ends f o) [ inl w ↦ omega (arith, w.fact.1) | inr u ↦ omega (arith, u.fact.0) ]
  low (Err r) a o = subst (λ n. n ≤ 7) (sym o.refused.0) (refusal_low r)

  has_run : (answered : Result RunEnd Refusal) → Answered serial turns job left read_faults source source' taken write_faults out out' answered → IsOutcome answered said_to err_faults err err' status rounds
      → (status ≡ 0) ⊎ (status ≡ 1) ⊎ (status ≡ 4)
      → HasRun serial turns job (left source) (λ own bytes. (status ≢ 4 → (status ≡ own) × (taken out' ≡ taken_with (taken out) bytes)) × IsTakenPrefix (taken out') (taken_with (taken out) bytes)) rounds
  has_run (Ok f) a o s =
      let r = a.ran in
      record {
        command = r.command;
        asked = r.asked;
        subject = r.subject;
        is = r.is;
        fits = r.fits;
        bytes = r.bytes;
        answers = r.answers;
        wrote = elim (ends f o) [
          | inl w ↦ (λ other. (w.fact.0 ∙ r.wrote.0, did w r.wrote.1), subst (IsTakenPrefix (taken out')) (did w r.wrote.1) (front_same (taken out')))
          | inr u ↦ (λ other. absurd (other u.fact.0), failed u r.wrote.2)
        ];
        rounds_report = subst (ReportsCommand (serial r.command) r.command r.subject) (sym o.told) r.rounds_report;
        turned = subst (turns r.command r.subject) (sym o.told) r.turned;
      }
  has_run (Err r) a o s =
      absurd (elim s [ inl nought ↦ not_low r o (inl nought) | inr more ↦ elim more [ inl one ↦ not_low r o (inr one) | inr four ↦ not_four r a.kinds o four ] ])

  bad : (answered : Result RunEnd Refusal) → Answered serial turns job left read_faults source source' taken write_faults out out' answered → IsOutcome answered said_to err_faults err err' status rounds
      → status ≡ 5 → (reads job ≡ true) × ((b : BadText) × Says said_to err_faults err err' (refusal.BadText b))
  bad (Ok f) a o five = absurd (no_other f 5 o (omega arith) (λ e. omega (arith, e)) five)
  bad (Err r) a o five =
      let is = is_bad r (sym o.refused.0 ∙ five) in
      (a.bad_read is.0 (ap (λ (x : Refusal). Err x) is.1), (is.0, subst (Says said_to err_faults err err') is.1 o.refused.1))

  not_fit : (answered : Result RunEnd Refusal) → Answered serial turns job left read_faults source source' taken write_faults out out' answered → IsOutcome answered said_to err_faults err err' status rounds
      → status ≡ 6 → HasNotFit serial job (left source) (λ u. Says said_to err_faults err err' (refusal.Unfit u))
  not_fit (Ok f) a o six = absurd (no_other f 6 o (omega arith) (λ e. omega (arith, e)) six)
  not_fit (Err r) a o six =
      let is = is_unfit r (sym o.refused.0 ∙ six) in
      let n = a.unfit is.0 (ap (λ (x : Refusal). Err x) is.1) in
      record {
        command = n.command;
        asked = n.asked;
        subject = n.subject;
        is = n.is;
        why = n.why;
        unfit = n.unfit;
        says = subst (Says said_to err_faults err err') (is.1 ∙ ap (λ (u : Unfit). refusal.Unfit u) (sym n.says)) o.refused.1;
      }

  no_answer : (answered : Result RunEnd Refusal) → Answered serial turns job left read_faults source source' taken write_faults out out' answered → IsOutcome answered said_to err_faults err err' status rounds → status ≢ 0 → status ≢ 1 → status ≢ 4 → out' ≡ out
  no_answer (Ok f) a o nought one four = absurd (only_refused f o nought one four)
  no_answer (Err r) a o nought one four = a.no_answer

  said_of : (r : Refusal) → Answered serial turns job left read_faults source source' taken write_faults out out' (Err r) → IsOutcome (Err r) said_to err_faults err err' status rounds → (text : List ℕ) → ((status ≡ 5) ⊎ (status ≡ 6) → SourceHad job (left source) text)
      → said status (answer_to serial job text) ≡ refusal_text r
  said_of r a o text told =
      ap (λ n. said n (answer_to serial job text)) o.refused.0
      ∙ said_is serial r job text (λ e. a.usage (ap (λ (x : Refusal). Err x) e))
      (λ b e. a.bad text b (told (inl (o.refused.0 ∙ ap status_of e ∙ bad_is b))) (ap (λ (x : Refusal). Err x) e))
      (λ u e. unfit_for text u (a.unfit u (ap (λ (x : Refusal). Err x) e)) (told (inr (o.refused.0 ∙ ap status_of e ∙ unfit_is u))))

  said_whole : (answered : Result RunEnd Refusal) → Answered serial turns job left read_faults source source' taken write_faults out out' answered → IsOutcome answered said_to err_faults err err' status rounds → (text : List ℕ) → ((status ≡ 5) ⊎ (status ≡ 6) → SourceHad job (left source) text)
      → ¬ RoseOrFull (err_faults err) (err_faults err') → said_to err' ≡ taken_with (said_to err) (said status (answer_to serial job text))
  said_whole (Ok f) a o text told calm =
      elim (ends f o) [
        | inl w ↦ ap said_to w.fact.2 ∙ (sym (after-nil (said_to err)) ∙ ap (taken_with (said_to err)) (sym (said_none status (answer_to serial job text) w.fact.1)))
        | inr u ↦ u.fact.1 calm ∙ ap (λ n. taken_with (said_to err) (said n (answer_to serial job text))) (sym u.fact.0)
      ]
  said_whole (Err r) a o text told calm = o.refused.1 calm ∙ ap (taken_with (said_to err)) (sym (said_of r a o text told))

  said_front : (answered : Result RunEnd Refusal) → Answered serial turns job left read_faults source source' taken write_faults out out' answered → IsOutcome answered said_to err_faults err err' status rounds → (text : List ℕ) → ((status ≡ 5) ⊎ (status ≡ 6) → SourceHad job (left source) text)
      → IsTakenPrefix (said_to err') (taken_with (said_to err) (said status (answer_to serial job text)))
  said_front (Ok f) a o text told =
      elim (ends f o) [
        | inl w ↦
            subst (IsTakenPrefix (said_to err')) (ap said_to w.fact.2 ∙ (sym (after-nil (said_to err)) ∙ ap (taken_with (said_to err)) (sym (said_none status (answer_to serial job text) w.fact.1)))) (front_same (said_to err'))
        | inr u ↦ subst (λ n. IsTakenPrefix (said_to err') (taken_with (said_to err) (said n (answer_to serial job text)))) (sym u.fact.0) u.fact.2
      ]
  said_front (Err r) a o text told = subst (λ (all : List ℕ). IsTakenPrefix (said_to err') (taken_with (said_to err) all)) (sym (said_of r a o text told)) o.refused.2

  silent : (answered : Result RunEnd Refusal) → Answered serial turns job left read_faults source source' taken write_faults out out' answered → IsOutcome answered said_to err_faults err err' status rounds → (status ≡ 0) ⊎ (status ≡ 1) → err' ≡ err
  silent (Ok f) a o low =
      elim (ends f o) [ inl w ↦ w.fact.2 | inr u ↦ absurd (elim low [ inl nought ↦ omega (arith, u.fact.0, nought) | inr one ↦ omega (arith, u.fact.0, one) ]) ]
  silent (Err r) a o low = absurd (not_low r o low)

  no_rounds : (answered : Result RunEnd Refusal) → Answered serial turns job left read_faults source source' taken write_faults out out' answered → IsOutcome answered said_to err_faults err err' status rounds → status ≢ 0 → status ≢ 1 → status ≢ 4 → rounds ≡ []
  no_rounds (Ok f) a o nought one four = absurd (only_refused f o nought one four)
  no_rounds (Err r) a o nought one four = o.no_rounds

  -- what holds of every refusal but want of memory
  pub refusal_only : (P : Type 0) (answered : Result RunEnd Refusal) → Answered serial turns job left read_faults source source' taken write_faults out out' answered → IsOutcome answered said_to err_faults err err' status rounds → IfErr answered (λ r. r ≢ refusal.NoMemory → P)
      → status ≢ 0 → status ≢ 1 → status ≢ 4 → status ≢ 7 → P
  refusal_only P (Ok f) a o p nought one four seven = absurd (only_refused f o nought one four)
  refusal_only P (Err r) a o p nought one four seven = p (λ memory. seven (o.refused.0 ∙ ap status_of memory ∙ memory_is))

-- all of it together
pub is_run : {S K E : Type 0} (serial : Command → Bool) (turns : Command → Subject → List ClosedRound → Type 0) (words : List (List ℕ)) (left : S → Option (List ℕ)) (read_faults : S → ℕ) (source source' : S) (taken : K → Option (List ℕ)) (write_faults : K → ℕ) (out out' : K)
    (said_to : E → Option (List ℕ)) (err_faults : E → ℕ) (err err' : E) (status : ℕ) (rounds : List ClosedRound) (answered : Result RunEnd Refusal)
    → Answered serial turns (command_of words) left read_faults source source' taken write_faults out out' answered → IsOutcome answered said_to err_faults err err' status rounds
    → IsRun serial turns words left read_faults source source' taken write_faults out out' said_to err_faults err err' status rounds
is_run serial turns words left read_faults source source' taken write_faults out out' said_to err_faults err err' status rounds answered a o = record {
  usage = usage answered a o;
  no_command = no_command answered a o;
  status_is = same_status answered a o;
  read_fault = read_fault answered a o;
  no_read_fault = no_read_fault answered a o;
  write_fault = write_fault answered a o;
  no_write_fault = no_write_fault answered a o;
  unread = a.unread;
  read_whole = read_whole answered a o;
  low = low answered a o;
  has_run = has_run answered a o;
  no_rounds = no_rounds answered a o;
  bad = bad answered a o;
  not_fit = not_fit answered a o;
  held = a.held;
  no_answer = no_answer answered a o;
  said_whole = said_whole answered a o;
  said_front = said_front answered a o;
  said_held = o.held;
  silent = silent answered a o;
}
