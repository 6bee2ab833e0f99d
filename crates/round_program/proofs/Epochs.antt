-- From what each rank knows of itself to the canonical run.
use Rattle.std.proofs.Common.{ℕ, zero, suc, ◌+◌, ◌-◌, ◌*◌, ◌^◌, ◌<◌, ◌≤◌, ◌≡◌, min, true, false, List, [], ◌∷◌, Some, length, slice_get, sum_by, All, arith, sym, ap, ◌∙◌, subst, inl, inr}
use Rattle.std.proofs.lemmas.Bool.{both_ways, cases_lt}
use Rattle.list_laws.specs.Sums.{total}
use Rattle.list_laws.proofs.Lists.{find, within, get_map, get_once}
use Rattle.list_laws.proofs.Sums.{total_list, total_part, total_same}
use Rattle.round_program.specs.Rules.{Rules}
use Rattle.round_program.specs.Laws.{Laws, Fits}
use Rattle.round_program.specs.Canonical.{absorb_upto, absorbed_round, states_at, votes_at, emissions_to, emitted_of, emitted_by, shape_of, HasRounds, InRound}
use Rattle.round_program.specs.Orders.{fitting}
use Rattle.round_program.specs.Epochs.{PairLists, vote_item, heard, after_work, Voted, told, spoiled, Own, Closes, EveryRunIsCanonical}
use Rattle.round_program.proofs.Orders.{upto_ext, fitting_all, emitted_by_fits}
use Rattle.round_program.proofs.Members.{in_round_at, absorbed_in, shape_is}

-- a run at one moment: what the theorem is given
record Run {S : Type 0} (R : Rules S) (p : ℕ) (shape : List ℕ) (most : ℕ) (starts : List S) (completed done : ℕ → ℕ) (h : ℕ → ℕ → S) (ls : ℕ → PairLists) : Type 0 where
  laws : Laws R
  start : InRound R p 0 shape most starts
  begins : (r : ℕ) (s : S) → slice_get starts r ≡ Some s → h r 0 ≡ s
  own : (r : ℕ) → r < p → Own R p (completed r) (done r) (h r) (ls r)
  closes : Closes p completed done ls

-- what a rank that wasn't spoiled in round m did
record Told {S : Type 0} (R : Rules S) (p : ℕ) (h : ℕ → S) (l : PairLists) (m : ℕ) : Type 0 where
  emits : (d : ℕ) → d < p → l.pushed (2 * m) d ≡ emissions_to R (h m) d
  votes : (d : ℕ) → d < p → l.pushed (2 * m + 1) d ≡ vote_item (R.vote (after_work R p h l m)) ∷ []

one_vote : (v : ℕ) → sum_by (λ x. x.a) (vote_item v ∷ []) ≡ v
one_vote v = omega arith

-- a spoiled vote makes the sum stand at its end
heard_spoiled : (p : ℕ) (l : PairLists) (m f : ℕ) → f < p → l.pulled (2 * m + 1) f ≡ vote_item (2 ^ 64 - 1) ∷ [] → heard p l m ≡ 2 ^ 64 - 1
heard_spoiled p l m f low e =
    let one : sum_by (λ x. x.a) (l.pulled (2 * m + 1) f) ≡ 2 ^ 64 - 1 = ap (sum_by (λ x. x.a)) e ∙ one_vote (2 ^ 64 - 1) in
    let part : sum_by (λ x. x.a) (l.pulled (2 * m + 1) f) ≤ total p (λ g. sum_by (λ x. x.a) (l.pulled (2 * m + 1) g)) = total_part p (λ g. sum_by (λ x. x.a) (l.pulled (2 * m + 1) g)) f low in
    omega arith

-- so where a round was completed each rank told the truth
told_by : {S : Type 0} {R : Rules S} {p : ℕ} {shape : List ℕ} {most : ℕ} {starts : List S} {completed done : ℕ → ℕ} {h : ℕ → ℕ → S} {ls : ℕ → PairLists} → Run R p shape most starts completed done h ls → (r f m : ℕ) → r < p → f < p → 2 * m + 2 ≤ completed r → Told R p (h f) (ls f) m
told_by {R = R} {p = p} {completed = completed} {done = done} {h = h} {ls = ls} run r f m lr lf c =
    let late : completed r ≤ done f = run.closes.all_done r f lr lf in
    let came : (ls r).pulled (2 * m + 1) f ≡ (ls f).pushed (2 * m + 1) r = run.closes.whole r f (2 * m + 1) lr lf (omega arith) in
    elim ((run.own f lf).voted m (omega arith)) [
      | told es vs ↦ record { emits = es; votes = vs }
      | spoiled vs ↦ absurd ((run.own r lr).unspoiled m c (heard_spoiled p (ls r) m f lf (came ∙ vs r lr)))
    ]

-- each rank has at least pulled the work of a round that one of them has completed
begun_by : {S : Type 0} {R : Rules S} {p : ℕ} {shape : List ℕ} {most : ℕ} {starts : List S} {completed done : ℕ → ℕ} {h : ℕ → ℕ → S} {ls : ℕ → PairLists} → Run R p shape most starts completed done h ls → (r f m : ℕ) → r < p → f < p → 2 * m + 2 ≤ completed r → 2 * m + 1 ≤ completed f
begun_by {completed = completed} {done = done} run r f m lr lf c =
    let late : completed r ≤ done f = run.closes.all_done r f lr lf in
    let near : done f ≤ completed f + 1 = (run.own f lf).done_high in
    omega arith

-- the states as round m began are the canonical ones
abbrev At : {S : Type 0} → Rules S → ℕ → List S → (ℕ → ℕ) → (ℕ → ℕ → S) → ℕ → Type 0
At R p starts completed h m = (r : ℕ) → r < p → 2 * m ≤ completed r → slice_get (states_at R starts m) r ≡ Some (h r m)

worked_by : {S : Type 0} {R : Rules S} {p : ℕ} {shape : List ℕ} {most : ℕ} {starts : List S} {completed done : ℕ → ℕ} {h : ℕ → ℕ → S} {ls : ℕ → PairLists} → Run R p shape most starts completed done h ls → (m : ℕ) → At R p starts completed h m → (r f : ℕ) → r < p → f < p → 2 * m + 2 ≤ completed r → slice_get (absorbed_round R (states_at R starts m)) f ≡ Some (after_work R p (h f) (ls f) m)
worked_by {R = R} {p = p} {shape = shape} {most = most} {starts = starts} {completed = completed} {h = h} {ls = ls} run m at_m r f lr lf c =
    let all : InRound R p (min m (2 ^ 64 - 1)) shape most (states_at R starts m) = in_round_at R run.laws p shape most starts m run.start in
    let begun : (g : ℕ) → g < p → 2 * m + 1 ≤ completed g = λ g lg. begun_by run r g m lr lg c in
    let here : slice_get (states_at R starts m) f ≡ Some (h f m) = at_m f lf (let b : 2 * m + 1 ≤ completed f = begun f lf in omega arith) in
    let list : (g : ℕ) → g < p → emitted_by R (states_at R starts m) f g ≡ fitting R (h f m) g ((ls f).pulled (2 * m) g) =
    λ g lg.
    let there : slice_get (states_at R starts m) g ≡ Some (h g m) = at_m g lg (let b : 2 * m + 1 ≤ completed g = begun g lg in omega arith) in
    let one : emitted_by R (states_at R starts m) f g ≡ emissions_to R (h g m) f = ap (λ o. emitted_of R o f) there in
    let came : (ls f).pulled (2 * m) g ≡ emitted_by R (states_at R starts m) f g =
    run.closes.whole f g (2 * m) lf lg (let b : 2 * m + 1 ≤ completed f = begun f lf in omega arith) ∙ ((told_by run r g m lr lg c).emits f lf ∙ sym one) in
    let fit : All (Fits R (h f m) g) (emitted_by R (states_at R starts m) f g) =
    λ k d b. (emitted_by_fits R run.laws p (min m (2 ^ 64 - 1)) shape most (states_at R starts m) f g (h f m) all here k d b).1 in
    sym (ap (fitting R (h f m) g) came ∙ fitting_all R (h f m) g (emitted_by R (states_at R starts m) f g) fit) in
    let fold' : absorb_upto R (h f m) (emitted_by R (states_at R starts m) (R.rank (h f m))) (length (states_at R starts m)) ≡ after_work R p (h f) (ls f) m =
    ap (λ k. absorb_upto R (h f m) (emitted_by R (states_at R starts m) k) (length (states_at R starts m))) (all.each f (h f m) here).own_rank
    ∙ (ap (absorb_upto R (h f m) (emitted_by R (states_at R starts m) f)) all.size
    ∙ upto_ext R (h f m) (emitted_by R (states_at R starts m) f) (λ g. fitting R (h f m) g ((ls f).pulled (2 * m) g)) p list) in
    get_map (λ t. absorb_upto R t (emitted_by R (states_at R starts m) (R.rank t)) (length (states_at R starts m))) (states_at R starts m) f (h f m) here ∙ ap Some fold'

heard_by : {S : Type 0} {R : Rules S} {p : ℕ} {shape : List ℕ} {most : ℕ} {starts : List S} {completed done : ℕ → ℕ} {h : ℕ → ℕ → S} {ls : ℕ → PairLists} → Run R p shape most starts completed done h ls → (m : ℕ) → At R p starts completed h m → (r : ℕ) → r < p → 2 * m + 2 ≤ completed r → heard p (ls r) m ≡ votes_at R starts m
heard_by {S} {R = R} {p = p} {shape = shape} {most = most} {starts = starts} {completed = completed} {h = h} {ls = ls} run m at_m r lr c =
    let all : InRound R p (min m (2 ^ 64 - 1)) shape most (states_at R starts m) = in_round_at R run.laws p shape most starts m run.start in
    let size : length (absorbed_round R (states_at R starts m)) ≡ p = (absorbed_in R run.laws p (min m (2 ^ 64 - 1)) shape most (states_at R starts m) all).size in
    let said : (f : ℕ) → f < p → sum_by (λ x. x.a) ((ls r).pulled (2 * m + 1) f) ≡ R.vote (after_work R p (h f) (ls f) m) =
    λ f lf.
    let came : (ls r).pulled (2 * m + 1) f ≡ vote_item (R.vote (after_work R p (h f) (ls f) m)) ∷ [] = run.closes.whole r f (2 * m + 1) lr lf (omega arith) ∙ (told_by run r f m lr lf c).votes r lr in
    ap (sum_by (λ x. x.a)) came ∙ one_vote (R.vote (after_work R p (h f) (ls f) m)) in
    let each : (k : ℕ) (x : S) → slice_get (absorbed_round R (states_at R starts m)) k ≡ Some x → R.vote x ≡ sum_by (λ x. x.a) ((ls r).pulled (2 * m + 1) k) =
    λ k x e.
    let lk : k < p = subst (λ n. k < n) size (within (absorbed_round R (states_at R starts m)) k x e) in
    let same : x ≡ after_work R p (h k) (ls k) m = get_once (absorbed_round R (states_at R starts m)) k x (after_work R p (h k) (ls k) m) e (worked_by run m at_m r k lr lk c) in
    ap R.vote same ∙ sym (said k lk) in
    let sums : sum_by R.vote (absorbed_round R (states_at R starts m)) ≡ total p (λ f. sum_by (λ x. x.a) ((ls r).pulled (2 * m + 1) f)) =
    total_list R.vote (λ f. sum_by (λ x. x.a) ((ls r).pulled (2 * m + 1) f)) (absorbed_round R (states_at R starts m)) each
    ∙ ap (λ n. total n (λ f. sum_by (λ x. x.a) ((ls r).pulled (2 * m + 1) f))) size in
    ap (λ n. min n (2 ^ 64 - 1)) (sym sums)

at_each : {S : Type 0} {R : Rules S} {p : ℕ} {shape : List ℕ} {most : ℕ} {starts : List S} {completed done : ℕ → ℕ} {h : ℕ → ℕ → S} {ls : ℕ → PairLists} → Run R p shape most starts completed done h ls → (m : ℕ) → At R p starts completed h m
at_each {S} {R = R} {starts = starts} {h = h} run zero r lr c =
    let s : (s : S) × (slice_get starts r ≡ Some s) = find starts r (subst (λ n. r < n) (sym run.start.size) lr) in
    s.1 ∙ ap Some (sym (run.begins r s.0 s.1))
at_each {R = R} {p = p} {starts = starts} {completed = completed} {h = h} {ls = ls} run (suc m) r lr c =
    let at_m : At R p starts completed h m = at_each run m in
    let over : 2 * m + 2 ≤ completed r = omega arith in
    get_map (λ t. R.ended t (votes_at R starts m)) (absorbed_round R (states_at R starts m)) r (after_work R p (h r) (ls r) m) (worked_by run m at_m r r lr lr over)
    ∙ ap Some (ap (R.ended (after_work R p (h r) (ls r) m)) (sym (heard_by run m at_m r lr over)) ∙ sym ((run.own r lr).next m over))

-- the shape of a rank's state is that of the run
shape_by : {S : Type 0} {R : Rules S} {p : ℕ} {shape : List ℕ} {most : ℕ} {starts : List S} {completed done : ℕ → ℕ} {h : ℕ → ℕ → S} {ls : ℕ → PairLists} → Run R p shape most starts completed done h ls → (m r : ℕ) → r < p → 2 * m ≤ completed r → R.shape (h r m) ≡ shape_of R starts
shape_by {R = R} {p = p} {shape = shape} {most = most} {starts = starts} {h = h} run m r lr c =
    let all : InRound R p (min m (2 ^ 64 - 1)) shape most (states_at R starts m) = in_round_at R run.laws p shape most starts m run.start in
    (all.each r (h r m) (at_each run m r lr c)).same_shape ∙ sym (shape_is R p 0 shape most starts (omega arith) run.start)

-- no rank goes past the last round
bounded_by : {S : Type 0} {R : Rules S} {p : ℕ} {shape : List ℕ} {most : ℕ} {starts : List S} {completed done : ℕ → ℕ} {h : ℕ → ℕ → S} {ls : ℕ → PairLists} → Run R p shape most starts completed done h ls → (n r : ℕ) → HasRounds R starts n → r < p → completed r ≤ 2 * n
bounded_by {R = R} {p = p} {starts = starts} {completed = completed} {done = done} {h = h} {ls = ls} run n r rounds lr =
    elim (cases_lt (2 * n) (completed r)) [
      | inl past ↦
          let some : 0 < n = rounds.some in
          let low : completed r ≤ done r = (run.own r lr).done_low in
          let goes : R.goes_on (R.shape (h r (n - 1))) (n - 1) (heard p (ls r) (n - 1)) ≡ true = (run.own r lr).goes (n - 1) (omega arith) in
          let same : R.shape (h r (n - 1)) ≡ shape_of R starts = shape_by run (n - 1) r lr (omega arith) in
          let sum : heard p (ls r) (n - 1) ≡ votes_at R starts (n - 1) = heard_by run (n - 1) (at_each run (n - 1)) r lr (omega arith) in
          absurd (both_ways (R.goes_on (shape_of R starts) (n - 1) (votes_at R starts (n - 1))) rounds.stops (ap (R.goes_on (shape_of R starts) (n - 1)) (sym sum) ∙ (ap (λ a. R.goes_on a (n - 1) (heard p (ls r) (n - 1))) (sym same) ∙ goes)))
      | inr within' ↦ within'
    ]

stopped_by : {S : Type 0} {R : Rules S} {p : ℕ} {shape : List ℕ} {most : ℕ} {starts : List S} {completed done : ℕ → ℕ} {h : ℕ → ℕ → S} {ls : ℕ → PairLists} → Run R p shape most starts completed done h ls → (n r m : ℕ) → HasRounds R starts n → r < p → 2 * m + 2 ≤ completed r → R.goes_on (R.shape (h r m)) m (heard p (ls r) m) ≡ false → m + 1 ≡ n
stopped_by {R = R} {p = p} {starts = starts} {completed = completed} {h = h} {ls = ls} run n r m rounds lr c stops =
    let high : completed r ≤ 2 * n = bounded_by run n r rounds lr in
    elim (cases_lt (m + 1) n) [
      | inl early ↦ absurd (both_ways (R.goes_on (shape_of R starts) m (votes_at R starts m)) (ap (R.goes_on (shape_of R starts) m) (sym (heard_by run m (at_each run m) r lr c)) ∙ (ap (λ a. R.goes_on a m (heard p (ls r) m)) (sym (shape_by run m r lr (omega arith))) ∙ stops)) (rounds.goes m early))
      | inr late ↦ omega arith
    ]

pub every_run : {S : Type 0} (R : Rules S) → Laws R → EveryRunIsCanonical R
every_run {S} R laws p shape most starts completed done h ls start begins own closes =
    let run : Run R p shape most starts completed done h ls = record { laws = laws; start = start; begins = begins; own = own; closes = closes } in
    record {
      states = λ r m lr c. at_each run m r lr c;
      pushed = λ r f d m lr lf ld c. (told_by run r f m lr lf c).emits d ld;
      absorbed = λ r f m lr lf c. worked_by run m (at_each run m) r f lr lf c;
      votes = λ r f d m lr lf ld c. (told_by run r f m lr lf c).votes d ld;
      sums = λ r m lr c. heard_by run m (at_each run m) r lr c;
      bounded = λ n r rounds lr. bounded_by run n r rounds lr;
      stopped = λ n r m rounds lr c stops. stopped_by run n r m rounds lr c stops;
    }

-- a rank's vote is the same toward all ranks
pub vote_alike : {S : Type 0} (R : Rules S) (p m r q : ℕ) (h : ℕ → S) (l : PairLists) → r < p → q < p → Voted R p h l m → l.pushed (2 * m + 1) r ≡ l.pushed (2 * m + 1) q
vote_alike R p m r q h l lr lq (told es vs) = vs r lr ∙ sym (vs q lq)
vote_alike R p m r q h l lr lq (spoiled vs) = vs r lr ∙ sym (vs q lq)

-- ranks that have pulled the votes of one round have heard one sum, spoiled or not
pub heard_alike : {S : Type 0} (R : Rules S) (p m r q : ℕ) (h : ℕ → ℕ → S) (ls : ℕ → PairLists) → r < p → q < p → ((f : ℕ) → f < p → Voted R p (h f) (ls f) m) → ((f : ℕ) → f < p → (ls r).pulled (2 * m + 1) f ≡ (ls f).pushed (2 * m + 1) r) → ((f : ℕ) → f < p → (ls q).pulled (2 * m + 1) f ≡ (ls f).pushed (2 * m + 1) q) → heard p (ls r) m ≡ heard p (ls q) m
heard_alike R p m r q h ls lr lq voted here there =
    ap (λ n. min n (2 ^ 64 - 1))
    (total_same p (λ f. sum_by (λ x. x.a) ((ls r).pulled (2 * m + 1) f)) (λ f. sum_by (λ x. x.a) ((ls q).pulled (2 * m + 1) f))
    (λ f lf. ap (sum_by (λ x. x.a)) (here f lf ∙ (vote_alike R p m r q (h f) (ls f) lr lq (voted f lf) ∙ sym (there f lf)))))
