-- What a drive tells of the programs as any of the applications, it tells of the application's own.
use Rattle.std.proofs.Common.{ℕ, ◌≡◌, ◌<◌, ◌≤◌, ◌+◌, ◌*◌, Bool, List, [], ◌∷◌, map, length, Option, Result, Ok, Err, IfOk, OnOk, refl, sym, ap, ◌∙◌, subst, arith}
use Rattle.std.specs.List.{range_with_len}
use Rattle.std.proofs.lemmas.List.{length-map}
use Rattle.route_tensor.specs.Grid.{ranks}
use Rattle.round_program.specs.Rules.{Rules}
use Rattle.round_program.specs.Canonical.{HasRounds, HaveEnded}
use Rattle.round_program.specs.Injections.{Injects}
use Rattle.round_program.proofs.Injections.{same_runs}
use Rattle.rank_group.specs.declared.closed_round.ClosedRound.{ClosedRound}
use Rattle.rank_node.specs.Movers.{Manner}
use Rattle.rank_group.specs.declared.drive.Finished.{Finished}
use Rattle.rank_group.specs.Transcript.{BankShape, turns_within}
use Rattle.rank_group.specs.DrivePromises.{HasFinished, HasSwept, NotifiedOfTurns, WithinTurns}
use Rattle.bale_words.specs.declared.task.Task.{Task}
use Rattle.app_cases.specs.Any.{AnyState, any_rules}
use Rattle.app_cases.proofs.Driving.{steps, are_cases, ended, rounds}
use Rattle.bale_runs.specs.declared.exchange.RunEnd.{RunEnd}
use Rattle.bale_subjects.specs.declared.refusal.Refusal.{Refusal}
use Rattle.bale_subjects.specs.declared.refusal.Refusal.TheVariants as refusal
use Rattle.bale_words.specs.declared.command.Command.{Command}
use Rattle.bale_runs.specs.RunEnds.{IsRunEnd}
use Rattle.bale_subjects.specs.declared.subject.Subject.{Subject}
use Rattle.bale_answers.specs.Tasks.{plan_of, way_of, starts_of}
use Rattle.bale_runs.specs.Runs.{HaveRunTask, SweptInOrder, Records, RecordsTask, IsTaskRun, TurnsOfTask, BeyondTurns, FewestOfTask}

pub tells : {S : Type 0} {R : Rules S} {i : S → AnyState} {w : List ℕ → List ℕ} → Injects R any_rules i w → (starts : List S) (ps : List AnyState) (made : BankShape) (manner : Manner)
    (run : Finished AnyState) → ps ≡ map i starts → 0 < length ps → HasFinished any_rules ps made manner run → Records R starts made manner run.rounds
tells {i = i} case starts ps made manner run put some h =
    let few : 0 < length starts = subst (λ n. 0 < n) (ap length put ∙ length-map starts i) some in
    let cs = are_cases case starts few ps put run.progs h.ended in
    let e = ended case starts few ps put run.progs cs.0 h.ended cs.1 in
    let r = rounds case starts few ps put made manner run.rounds h.rounds in
    record { closed = r.0; only = r.1; count = e.rounds; has_rounds = e.has_rounds; tells = r.2 e.rounds e.has_rounds }

-- the programs of a task's run
have_run : (t : Task) (s : Subject) (n : ℕ) (ps ends : List AnyState) → 1 ≤ n → n ≤ 64 → ps ≡ starts_of t n s → 0 < length ps → HaveEnded any_rules ps ends → HaveRunTask t s ends
have_run t s n ps ends low high are some h =
    record {
      ranks = n;
      some = low;
      few = high;
      begun = subst (λ (qs : List AnyState). 0 < length qs) are some;
      ended = subst (λ (qs : List AnyState). HaveEnded any_rules qs ends) are h;
    }

-- the rounds of a task's run
tells_task : (t : Task) (s : Subject) (made : BankShape) (manner : Manner) (ps : List AnyState) (run : Finished AnyState)
    → ps ≡ starts_of t (ranks made.dims) s → 0 < length ps → HasFinished any_rules ps made manner run → RecordsTask t s made manner run.rounds
unfolding starts_of
tells_task t s made manner ps run put some h = tells (way_of t s).is_case ((plan_of t s).starts (ranks made.dims)) ps made manner run put some h

-- the run of a task
pub task_run : (t : Task) (s : Subject) (made : BankShape) (manner : Manner) (ps : List AnyState) (run : Finished AnyState) → 1 ≤ ranks made.dims → ranks made.dims ≤ 64
    → ps ≡ starts_of t (ranks made.dims) s → 0 < length ps → HasFinished any_rules ps made manner run → IsTaskRun t s made manner run
task_run t s made manner ps run low high put some h =
    record { ended = have_run t s (ranks made.dims) ps run.progs low high put some h.ended; rounds = tells_task t s made manner ps run put some h }

pub turns : {S : Type 0} {R : Rules S} {i : S → AnyState} {w : List ℕ → List ℕ} → Injects R any_rules i w → (starts : List S) (ps : List AnyState) (manner : Manner) (dims : List ℕ) (before after : ℕ)
    → ps ≡ map i starts → 0 < length ps → ((n : ℕ) → HasRounds any_rules ps n → after ≤ before + turns_within any_rules manner dims ps n) → WithinTurns R starts manner dims before after
turns {i = i} case starts ps manner dims before after put some f =
    steps case starts (subst (λ n. 0 < n) (ap length put ∙ length-map starts i) some) ps put manner dims before after f

-- the turns of a task's run
pub turns_of_task : (t : Task) (s : Subject) (manner : Manner) (dims : List ℕ) (before after : ℕ) (ps : List AnyState)
    → ps ≡ starts_of t (ranks dims) s → 0 < length ps → ((n : ℕ) → HasRounds any_rules ps n → after ≤ before + turns_within any_rules manner dims ps n) → TurnsOfTask t s manner dims before after
unfolding starts_of
turns_of_task t s manner dims before after ps put some f = turns (way_of t s).is_case ((plan_of t s).starts (ranks dims)) ps manner dims before after put some f

-- the programs of a list as any of the applications, for as many rounds
rounds_as_any : {S : Type 0} {R : Rules S} {i : S → AnyState} {w : List ℕ → List ℕ} → Injects R any_rules i w → (starts : List S) (ps : List AnyState) (n : ℕ)
    → ps ≡ map i starts → 0 < length ps → HasRounds R starts n → HasRounds any_rules ps n
rounds_as_any {R = R} {i = i} {w = w} case starts ps n put some h =
    subst (λ a. HasRounds any_rules a n) (sym put) ((same_runs R any_rules i w case).has_rounds starts n (subst (λ k. 0 < k) (ap length put ∙ length-map starts i) some) h)

pub fewest : {S : Type 0} {R : Rules S} {i : S → AnyState} {w : List ℕ → List ℕ} → Injects R any_rules i w → (starts : List S) (ps : List AnyState) (dims : List ℕ) (before after : ℕ)
    → ps ≡ map i starts → 0 < length ps → ((n : ℕ) → HasRounds any_rules ps n → before + 2 * n * ranks dims ≤ after) → BeyondTurns R starts dims before after
fewest case starts ps dims before after put some f n h = f n (rounds_as_any case starts ps n put some h)

-- the fewest turns of a task's run
pub fewest_of_task : (t : Task) (s : Subject) (dims : List ℕ) (before after : ℕ) (ps : List AnyState)
    → ps ≡ starts_of t (ranks dims) s → 0 < length ps → ((n : ℕ) → HasRounds any_rules ps n → before + 2 * n * ranks dims ≤ after) → FewestOfTask t s dims before after
unfolding starts_of
fewest_of_task t s dims before after ps put some f = fewest (way_of t s).is_case ((plan_of t s).starts (ranks dims)) ps dims before after put some f

-- what the gate was notified of the turns
pub told_turns : {S : Type 0} {R : Rules S} {i : S → AnyState} {w : List ℕ → List ℕ} → Injects R any_rules i w → (starts : List S) (ps : List AnyState) (dims : List ℕ) (notified : ℕ → ℕ → Bool)
    → ps ≡ map i starts → 0 < length ps → NotifiedOfTurns any_rules ps dims notified → NotifiedOfTurns R starts dims notified
told_turns case starts ps dims notified put some f n r m h low few = f n r m (rounds_as_any case starts ps n put some h) low few

pub told_of_task : (t : Task) (s : Subject) (dims : List ℕ) (notified : ℕ → ℕ → Bool) (ps : List AnyState)
    → ps ≡ starts_of t (ranks dims) s → 0 < length ps → NotifiedOfTurns any_rules ps dims notified → NotifiedOfTurns (plan_of t s).rules ((plan_of t s).starts (ranks dims)) dims notified
unfolding starts_of
told_of_task t s dims notified ps put some f = told_turns (way_of t s).is_case ((plan_of t s).starts (ranks dims)) ps dims notified put some f

-- the sweeps of a drive that was given the order 0, 1, .., P-1
pub swept_in_order : (starts ps : List AnyState) (made : BankShape) (manner manner' : Manner) (order : List ℕ) (before after : ℕ) (run : Finished AnyState)
    → ps ≡ starts → order ≡ range_with_len 0 (ranks made.dims) → manner ≡ manner' → HasSwept any_rules ps made manner order before after run
    → SweptInOrder starts made manner' before after run.rounds
swept_in_order starts ps made manner manner' order before after run put o m h =
    record {
      run = run;
      left = refl;
      swept = subst (λ v. HasSwept any_rules starts made v (range_with_len 0 (ranks made.dims)) before after run) m
          (subst (λ l. HasSwept any_rules starts made manner l before after run) o (subst (λ qs. HasSwept any_rules qs made manner order before after run) put h));
    }

-- what follows of a result that is there
pub on_ok : {T E : Type 0} (r : Result T E) (P Q : Type 0) → (P → Q) → OnOk r P → OnOk r Q
on_ok (Ok x) P Q f p = f p
on_ok (Err e) P Q f p = tt

-- what holds in any case
pub always : {T E : Type 0} (r : Result T E) (P : Type 0) → P → IfOk r (λ x. P)
always (Ok x) P p = p
always (Err e) P p = tt

few : {before after : ℕ} (more : ℕ) → after ≡ before → after ≤ before + more
few more e = omega (arith, e)

-- where no turn was made, there are few
pub none_made : (t : Task) (s : Subject) (manner : Manner) (dims : List ℕ) (before after : ℕ) → after ≡ before → TurnsOfTask t s manner dims before after
none_made t s manner dims before after e = λ n h. few _ e

-- where the rounds of a run are those that were recorded
pub rounds_as : (P : List ClosedRound → Type 0) {rs : List ClosedRound} (r : Result RunEnd Refusal) → IfOk r (λ f. f.rounds ≡ rs) → P rs → IfOk r (λ f. P f.rounds)
rounds_as P (Ok f) e p = subst P (sym e) p
rounds_as P (Err x) e p = tt

-- a run that found no memory, before anything was written
pub refused : {K : Type 0} (c : Command) (s : Subject) (tells : List ClosedRound → Type 0) (taken : K → Option (List ℕ)) (faults : K → ℕ) (out out' : K) → out' ≡ out
    → IsRunEnd c s tells taken faults out out' (Err refusal.NoMemory)
refused c s tells taken faults out out' same = record { ending = tt; rounds = tt; memory = refl; no_answer = same }

-- a run whose rounds are those that were recorded
pub finish : {K : Type 0} (c : Command) (s : Subject) (tells : List ClosedRound → Type 0) (taken : K → Option (List ℕ)) (faults : K → ℕ) (out out' : K) (r : Result RunEnd Refusal) {rs : List ClosedRound}
    → IsRunEnd c s (λ rounds. rounds ≡ rs) taken faults out out' r → tells rs → IsRunEnd c s tells taken faults out out' r
finish c s tells taken faults out out' r e notified = record { ending = e.ending; rounds = rounds_as tells r e.rounds notified; memory = e.memory; no_answer = e.no_answer }
