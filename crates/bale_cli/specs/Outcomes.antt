-- What the two top calls depend on: what is known of an answer before it is told, and how it is
-- told.
use Rattle.std.specs.Prelude.{◌≡◌, ◌≢◌, ◌⊎◌, ◌≤◌, ℕ, Bool, true, false, List, [], Option, None, Some, Result, Err, drop}
use Rattle.std.specs.Prelude.{OnOk, OnErr, IfOk, IfErr}
use Rattle.std.specs.Result.{IsErrAnd}
use Rattle.bale_types.specs.Stream.{taken_with, HasCause, IsTakenPrefix}
use Rattle.bale_items.specs.Counters.{RoseOrFull}
use Rattle.rank_group.specs.declared.closed_round.ClosedRound.{ClosedRound}
use Rattle.bale_words.specs.declared.command.Command.{Command}
use Rattle.bale_runs.specs.declared.exchange.RunEnd.{RunEnd}
use Rattle.bale_subjects.specs.declared.refusal.BadText.{BadText}
use Rattle.bale_subjects.specs.declared.refusal.Refusal.{Refusal}
use Rattle.bale_subjects.specs.declared.refusal.Refusal.TheVariants as refusal
use Rattle.bale_subjects.specs.declared.subject.Subject.{Subject}
use Rattle.bale_subjects.specs.declared.unfit.Unfit.{Unfit}
use Rattle.bale_answers.specs.Answer.{IsBad}
use Rattle.bale_subjects.specs.Refusals.{refusal_text, status_of, IsOfText}
use Rattle.bale_subjects.specs.Reading.{reads, SourceHad}
use Rattle.bale_cli.specs.Run.{HasNotFit, HasRun}

-- An answer, or why there is none: what the words ask for (`job`), of a source before and after, on
-- a sink before and after. `left` is what a source tells of what it has left, `taken` what a sink
-- tells of what it has taken, and each counts its own faults.
pub record Answered {S K : Type 0} (serial : Command → Bool)
    (turns : Command → Subject → List ClosedRound → Type 0) (job : Option Command)
    (left : S → Option (List ℕ))
    (read_faults : S → ℕ) (source source' : S)
    (taken : K → Option (List ℕ)) (write_faults : K → ℕ) (out out' : K)
    (answered : Result RunEnd Refusal) : Type 0 where
  pub usage : answered ≡ Err refusal.Usage → job ≡ None
  pub no_command : job ≡ None → IsErrAnd answered (λ r. (r ≡ refusal.Usage) ⊎ (r ≡ refusal.NoMemory))
  pub read_fault : answered ≡ Err refusal.ReadFault → RoseOrFull (read_faults source) (read_faults source')
  pub no_read_fault : answered ≢ Err refusal.ReadFault → read_faults source' ≡ read_faults source
  pub bad : (text : List ℕ) (b : BadText) → SourceHad job (left source) text → answered ≡ Err (refusal.BadText b)
      → IsBad job text b
  pub bad_read : (b : BadText) → answered ≡ Err (refusal.BadText b) → reads job ≡ true
  pub unfit : (u : Unfit) → answered ≡ Err (refusal.Unfit u) → HasNotFit serial job (left source) (λ why. why ≡ u)
  pub kinds : IfErr answered (λ r. r ≢ refusal.WriteFault)
  pub ran : IfOk answered (λ f. HasRun serial turns job (left source) (λ own bytes. (f.ending.status ≡ own)
      × OnOk f.ending.written (taken out' ≡ taken_with (taken out) bytes)
      × OnErr f.ending.written (IsTakenPrefix (taken out') (taken_with (taken out) bytes))) f.rounds)
  pub low : IfOk answered (λ f. f.ending.status ≤ 1)
  pub write_fault : IfOk answered (λ f. HasCause (write_faults out) (write_faults out') f.ending.written)
  pub no_write_fault : IfOk answered (λ f. OnOk f.ending.written (write_faults out' ≡ write_faults out))
  pub held : IsTakenPrefix (taken out) (taken out')
  pub unread : reads job ≡ false → source' ≡ source
  pub read_whole : (text : List ℕ) → left source ≡ Some text → reads job ≡ true
      → OnOk answered (left source' ≡ Some (drop 16777217 text))
  pub read_bad : (text : List ℕ) → left source ≡ Some text → reads job ≡ true
      → IfErr answered (λ r. IsOfText r → left source' ≡ Some (drop 16777217 text))
  pub no_answer : OnErr answered (out' ≡ out)

-- How an answer is told, or why there is none: the status, the rounds, and what is said on a sink
-- before and after.
pub record IsOutcome {E : Type 0} (answered : Result RunEnd Refusal) (taken : E → Option (List ℕ)) (faults : E → ℕ)
    (err err' : E) (status : ℕ) (rounds : List ClosedRound) : Type 0 where
  pub told : IfOk answered (λ f. rounds ≡ f.rounds)
  pub no_rounds : OnErr answered (rounds ≡ [])
  pub written : IfOk answered (λ f. OnOk f.ending.written ((status ≡ f.ending.status) × (status ≤ 1) × (err' ≡ err)))
  pub unwritten : IfOk answered
      (λ f. OnErr f.ending.written
      ((status ≡ 4)
      × (¬ RoseOrFull (faults err) (faults err') → taken err' ≡ taken_with (taken err) (refusal_text refusal.WriteFault))
      × IsTakenPrefix (taken err') (taken_with (taken err) (refusal_text refusal.WriteFault))))
  pub refused : IfErr answered
      (λ r. (status ≡ status_of r)
      × (¬ RoseOrFull (faults err) (faults err') → taken err' ≡ taken_with (taken err) (refusal_text r))
      × IsTakenPrefix (taken err') (taken_with (taken err) (refusal_text r)))
  pub held : IsTakenPrefix (taken err) (taken err')
