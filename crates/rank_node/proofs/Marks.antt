-- The proceed parcels of a log that grows.
use Rattle.std.proofs.Common.{◌≡◌, ℕ, zero, suc, ◌+◌, ◌*◌, ◌<◌, ◌⊎◌, Bool, true, false, cond, List, [], ◌∷◌, ◌++◌, length, slice_get, Some, refl, sym, ap, subst, ◌∙◌, arith, inl, inr}
use Rattle.std.proofs.lemmas.Bool.{cases_eq, cases_lt}
use Rattle.std.proofs.lemmas.List.{length-append}
use Rattle.item_buffer.specs.Contents.{Shipped}
use Rattle.list_laws.specs.Lists.{IsPrefix}
use Rattle.list_laws.proofs.Lists.{within, get_last, get_before}
use Rattle.port_bank.specs.Logs.{lasts, segment, lasts_in}
use Rattle.port_bank.proofs.Segments.{lasts-append, lasts_first, segment_begins}
use Rattle.port_bank.proofs.Posts.{segment_now, segment_then}
use Rattle.exstack.specs.Links.{StackOut, gone, parcel_of}
use Rattle.exstack.specs.Steps.{was_moved, WasPostedInRound}
use Rattle.exstack.specs.Cycles.{proceed_parcel}
use Rattle.exstack.specs.Agreement.{LinkAgrees}

some_is : {X : Type 0} (x y : X) → Some x ≡ Some y → x ≡ y
some_is x y e = cc

-- no parcel of a segment that isn't closed is marked last
first_going : (q p : Shipped) (rest : List Shipped) (b : Bool) (i n : ℕ) → q.last ≡ b → 0 ≡ cond b (suc n) n → (0 ≡ n → (k : ℕ) → slice_get rest k ≡ Some p → p.last ≡ false)
    → slice_get (q ∷ cond b [] rest) i ≡ Some p → p.last ≡ false
first_going q p rest true i n is h f g = absurd (omega (arith, h))
first_going q p rest false zero n is h f g = ap (λ (x : Shipped). x.last) (sym (some_is q p g)) ∙ is
first_going q p rest false (suc i) n is h f g = f h i g

later_going : (e : ℕ) (p : Shipped) (qs : List Shipped) (b : Bool) (i n : ℕ) → suc e ≡ cond b (suc n) n → (e ≡ n → slice_get (segment e qs) i ≡ Some p → p.last ≡ false)
    → (suc e ≡ n → slice_get (segment (suc e) qs) i ≡ Some p → p.last ≡ false) → slice_get (cond b (segment e qs) (segment (suc e) qs)) i ≡ Some p → p.last ≡ false
later_going e p qs true i n h f g at = f (omega (arith, h)) at
later_going e p qs false i n h f g at = g h at

pub open_going : (e : ℕ) (log : List Shipped) (i : ℕ) (p : Shipped) → e ≡ lasts log → slice_get (segment e log) i ≡ Some p → p.last ≡ false
open_going zero [] i p h at = absurd (omega (arith, within [] i p at))
open_going (suc e) [] i p h at = absurd (omega (arith, within [] i p at))
open_going zero (q ∷ qs) i p h at = first_going q p (segment 0 qs) q.last i (lasts qs) refl (h ∙ lasts_first q qs q.last refl) (λ z k a. open_going zero qs k p z a) at
open_going (suc e) (q ∷ qs) i p h at = later_going e p qs q.last i (lasts qs) (h ∙ lasts_first q qs q.last refl) (λ z a. open_going e qs i p z a) (λ z a. open_going (suc e) qs i p z a) at

-- a proceed parcel stays
pub parcel_stays : (e m : ℕ) (log log' : List Shipped) (p : Shipped) → IsPrefix log log' → proceed_parcel e m log ≡ Some p → proceed_parcel e m log' ≡ Some p
parcel_stays e m log log' p b is =
    let s = segment_begins e log log' b in
    ap (λ xs. slice_get xs (2 * m)) s.is ∙ (get_before (segment e log) s.rest (2 * m) (within (segment e log) (2 * m) p is) ∙ is)

-- of a log with one parcel more it was there, or is this one
pub record IsNewest (e m : ℕ) (log : List Shipped) (p q : Shipped) : Type 0 where
  pub epoch : e ≡ lasts log
  pub place : 2 * m ≡ length (segment e log)
  pub same : q ≡ p

pub parcel_before : (e m : ℕ) (log : List Shipped) (p q : Shipped) → proceed_parcel e m (log ++ p ∷ []) ≡ Some q → (proceed_parcel e m log ≡ Some q) ⊎ IsNewest e m log p q
parcel_before e m log p q is =
    elim (cases_eq e (lasts log)) [
      | inl now ↦
          let seg = segment_now e log p now in
          let at : slice_get (segment e log ++ p ∷ []) (2 * m) ≡ Some q = sym (ap (λ xs. slice_get xs (2 * m)) seg) ∙ is in
          elim (cases_lt (2 * m) (length (segment e log))) [
            | inl low ↦ inl (sym (get_before (segment e log) (p ∷ []) (2 * m) low) ∙ at)
            | inr high ↦
                let place : 2 * m ≡ length (segment e log) = omega (arith, high, within (segment e log ++ p ∷ []) (2 * m) q at, length-append (segment e log) (p ∷ [])) in
                inr (record { epoch = now; place = place; same = some_is q p (sym at ∙ (ap (slice_get (segment e log ++ p ∷ [])) place ∙ get_last (segment e log) p)) })
          ]
      | inr apart ↦ inl (sym (ap (λ xs. slice_get xs (2 * m)) (segment_then e log p apart)) ∙ is)
    ]

-- where a parcel that isn't marked last was posted
posted_place : (e rounds : ℕ) (o' : StackOut) (log log' : List Shipped) (p : Shipped) → LinkAgrees e rounds o'.closed o'.due log' → o' ≡ gone false → log' ≡ log ++ p ∷ [] → p.last ≡ false → (lasts log ≡ e) × (length (segment e log) + 1 ≡ rounds)
posted_place e rounds o' log log' p a link is going =
    let closed : o'.closed ≡ false = ap (λ (o : StackOut). o.closed) link in
    let due : o'.due ≡ false = ap (λ (o : StackOut). o.due) link in
    let all : lasts log' ≡ e = a.ended ∙ ap (lasts_in e) closed in
    let one : lasts (p ∷ []) ≡ 0 = lasts_first p [] false going in
    let before : lasts log ≡ e = omega (arith, all, ap lasts is, lasts-append log (p ∷ []), one) in
    let count : length (segment e log') + cond o'.due 1 0 ≡ rounds = a.each_round closed in
    let seg : length (segment e log') ≡ length (segment e log) + 1 = ap (λ xs. length (segment e xs)) is ∙ (ap length (segment_now e log p (sym before)) ∙ length-append (segment e log) (p ∷ [])) in
    (before, omega (arith, count, seg, ap {B = ℕ} (λ d. cond d 1 0) due))

-- so a link's proceed parcels are marked last in time, as its parcel of a round is posted
pub marks_posted : (quota : ℕ → ℕ) (e rounds : ℕ) (last : Bool) (o o' : StackOut) (log log' : List Shipped) → WasPostedInRound last e o o' log log' → LinkAgrees e rounds o'.closed o'.due log'
    → (last ≡ false → (m : ℕ) → 2 * m + 1 ≡ rounds → m < quota e)
    → ((d m : ℕ) (q : Shipped) → proceed_parcel d m log ≡ Some q → q.last ≡ false → m < quota d) → (d m : ℕ) (q : Shipped) → proceed_parcel d m log' ≡ Some q → q.last ≡ false → m < quota d
marks_posted quota e rounds last o o' log log' w a in_time was = by (was_moved o.due o'.due) refl where
  by : (b : Bool) → was_moved o.due o'.due ≡ b → (d m : ℕ) (q : Shipped) → proceed_parcel d m log' ≡ Some q → q.last ≡ false → m < quota d
  by false none d m q at going =
      let same : log' ≡ log = w.sent ∙ ap (λ b. cond b (log ++ parcel_of last e o ∷ []) log) none in
      was d m q (sym (ap (proceed_parcel d m) same) ∙ at) going
  by true moved d m q at going =
      let is : log' ≡ log ++ parcel_of last e o ∷ [] = w.sent ∙ ap (λ b. cond b (log ++ parcel_of last e o ∷ []) log) moved in
      elim (parcel_before d m log (parcel_of last e o) q (sym (ap (proceed_parcel d m) is) ∙ at)) [
        | inl old ↦ was d m q old going
        | inr new ↦
            let open' : last ≡ false = sym (ap (λ (x : Shipped). x.last) new.same) ∙ going in
            let link : o' ≡ gone false = w.link ∙ (ap (λ b. cond b (gone last) o) moved ∙ ap gone open') in
            let k = posted_place e rounds o' log log' (parcel_of last e o) a link is open' in
            let epoch : d ≡ e = new.epoch ∙ k.0 in
            let place : 2 * m ≡ length (segment e log) = new.place ∙ ap (λ c. length (segment c log)) epoch in
            subst (λ c. m < quota c) (sym epoch) (in_time open' m (omega (arith, place, k.1)))
      ]
