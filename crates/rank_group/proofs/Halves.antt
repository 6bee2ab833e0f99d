-- A turn of a rank over an exstack makes half a round more than every rank had made.
use Rattle.std.proofs.Common.{◌≡◌, ◌≢◌, ℕ, zero, suc, ◌+◌, ◌*◌, ◌<◌, ◌≤◌, ◌||◌, Bool, true, false, List, [], ◌∷◌, length, refl, sym, ap, subst, ◌∙◌, arith, inl, inr, eqb-true}
use Rattle.std.proofs.lemmas.Bool.{cases_Bool, cases_eq, cases_lt, cases_order, true≢false, false≢true}
use Rattle.list_laws.specs.Sums.{total}
use Rattle.port_bank.proofs.Fronts.{begins_whole}
use Rattle.port_bank.specs.Logs.{Logs, lasts, starting_at, ending_at, lasts_in}
use Rattle.port_bank.specs.Flow.{IsPrefix}
use Rattle.port_bank.proofs.Segments.{lasts_begins}
use Rattle.exstack.specs.declared.stage.Stage.{Stage}
use Rattle.exstack.specs.declared.stage.Stage.TheVariants.{Start, Proceeding, Filling, Exchanging, Full, AllDone}
use Rattle.exstack.specs.State.{Stack, stack_out_at, stack_in_at, number, stack_link_to, stack_link_from, is_proceeding, is_exchanging}
use Rattle.exstack.specs.State.{is_all_done}
use Rattle.exstack.specs.Agreement.{cycle_after}
use Rattle.exstack.specs.Lockstep.{finished_in, HasFinishedRounds, HasPostedRounds, InStep, RoomLaw, ArrivalLaw}
use Rattle.exstack.proofs.Lockstep.{begins, sent_own, got_own, out_end, out_is, in_end, in_is}
use Rattle.rank_node.specs.Cycles.{IsOnward, Awaits}
use Rattle.rank_node.specs.Moves.{WaitsFor}
use Rattle.rank_group.specs.Ranks.{crowded_in, idle_in}
use Rattle.rank_group.specs.RoundProgress.{rounds_made, IsHalfway, HasMadeHalves}

-- more terms, no smaller sum
pub total_more : (f : ℕ → ℕ) (a b : ℕ) → a ≤ b → total a f ≤ total b f
total_more f a zero low = let e : a ≡ 0 = omega (arith, low) in omega (arith, ap (λ k. total k f) e)
total_more f a (suc b) low = elim (cases_lt b a) [
  | inl here ↦ let e : a ≡ suc b = omega (arith, low, here) in omega (arith, ap (λ k. total k f) e)
  | inr before ↦ let rest = total_more f a b (omega (arith, before)) in omega (arith, rest)
]

-- a turn finishes no fewer rounds
pub finished_more : (n : ℕ) (s s' : Stage) → IsOnward s s' → finished_in n s ≤ finished_in (cycle_after n s) s'
finished_more n Start s' on = omega arith
finished_more n Proceeding Start on = absurd (false≢true on)
finished_more n Proceeding Proceeding on = omega arith
finished_more n Proceeding Filling on = omega arith
finished_more n Proceeding Exchanging on = absurd (false≢true on)
finished_more n Proceeding Full on = absurd (false≢true on)
finished_more n Proceeding AllDone on = omega arith
finished_more n Filling Start on = absurd (false≢true on)
finished_more n Filling Proceeding on = absurd (false≢true on)
finished_more n Filling Filling on = absurd (false≢true on)
finished_more n Filling Exchanging on = omega arith
finished_more n Filling Full on = omega arith
finished_more n Filling AllDone on = absurd (false≢true on)
finished_more n Exchanging Start on = absurd (false≢true on)
finished_more n Exchanging Proceeding on = absurd (false≢true on)
finished_more n Exchanging Filling on = absurd (false≢true on)
finished_more n Exchanging Exchanging on = omega arith
finished_more n Exchanging Full on = omega arith
finished_more n Exchanging AllDone on = absurd (false≢true on)
finished_more n Full Start on = absurd (false≢true on)
finished_more n Full Proceeding on = omega arith
finished_more n Full Filling on = omega arith
finished_more n Full Exchanging on = absurd (false≢true on)
finished_more n Full Full on = absurd (false≢true on)
finished_more n Full AllDone on = omega arith
finished_more n AllDone s' on = let e = ap (finished_in n) on in omega (arith, e)

-- and where it finishes none it leaves the rank within a round
pub stays_within : (n : ℕ) (s s' : Stage) → IsOnward s s' → is_all_done s' ≡ false → finished_in (cycle_after n s) s' ≡ finished_in n s → (is_proceeding s' || is_exchanging s') ≡ true
stays_within n s Proceeding on going same = refl
stays_within n s Exchanging on going same = refl
stays_within n s AllDone on going same = absurd (true≢false going)
stays_within n Start Filling on going same = absurd (omega (arith, same))
stays_within n Proceeding Filling on going same = absurd (omega (arith, same))
stays_within n Full Filling on going same = absurd (omega (arith, same))
stays_within n Filling Filling on going same = absurd (false≢true on)
stays_within n Exchanging Filling on going same = absurd (false≢true on)
stays_within n AllDone Filling on going same = absurd (cc)
stays_within n Filling Full on going same = absurd (omega (arith, same))
stays_within n Exchanging Full on going same = absurd (omega (arith, same))
stays_within n Start Full on going same = absurd (false≢true on)
stays_within n Proceeding Full on going same = absurd (false≢true on)
stays_within n Full Full on going same = absurd (false≢true on)
stays_within n AllDone Full on going same = absurd (cc)
stays_within n Start Start on going same = absurd (false≢true on)
stays_within n Proceeding Start on going same = absurd (false≢true on)
stays_within n Full Start on going same = absurd (false≢true on)
stays_within n Filling Start on going same = absurd (false≢true on)
stays_within n Exchanging Start on going same = absurd (false≢true on)
stays_within n AllDone Start on going same = absurd (cc)

-- halves of rounds, and rounds
pub halves_low : (most : ℕ → ℕ) (j : ℕ) (over : Bool) (n : ℕ) (x : Stack) → HasMadeHalves most j over n x → j ≤ 2 * rounds_made most over n x + 1
halves_low most j over n x (inl low) = omega (arith, low)
halves_low most j over n x (inr here) = omega (arith, here.0)

pub halves_less : (most : ℕ → ℕ) (j : ℕ) (over : Bool) (n : ℕ) (x : Stack) → HasMadeHalves most (j + 1) over n x → HasMadeHalves most j over n x
halves_less most j over n x (inl low) = inl (omega (arith, low))
halves_less most j over n x (inr here) = inl (omega (arith, here.0))

-- the exstacks of all ranks: none that goes on has made all rounds of its epoch, and those that are
-- over are done with the last
pub record AllStacks (p cap slots : ℕ) (most : ℕ → ℕ) (epochs : ℕ) (over : ℕ → Bool) (n : ℕ → ℕ) (all : ℕ → Stack) (sent got : Logs) : Type 0 where
  pub step : InStep p cap slots n all sent got
  pub short : (r : ℕ) → r < p → over r ≡ false → finished_in (n r) (all r).stage < most (all r).epoch
  pub within : (r : ℕ) → r < p → over r ≡ false → (all r).epoch < epochs
  pub last : (r : ℕ) → r < p → over r ≡ true → (all r).epoch + 1 ≡ epochs
  pub ended : (r : ℕ) → r < p → over r ≡ true → is_all_done (all r).stage ≡ true
  pub done : (r : ℕ) → r < p → over r ≡ true → (all r).done ≡ true

-- a link at its two ends
module _ (p cap slots : ℕ) (n : ℕ → ℕ) (all : ℕ → Stack) (sent got : Logs) (t : InStep p cap slots n all sent got) (a b : ℕ) (la : a < p) (lb : b < p) where
  abbrev l : ℕ
  l = number p a b

  -- a link whose parcel is due isn't through
  pub out_going : (stack_out_at (all a) b).due ≡ true → lasts (sent l) ≡ (all a).epoch
  out_going due = (out_end p cap slots n all sent got t a b la lb).ended ∙ ap (lasts_in (all a).epoch) ((out_is p cap slots n all sent got t a b la lb).due_open due)

  pub in_going : (stack_in_at (all b) a).due ≡ true → lasts (got l) ≡ (all b).epoch
  in_going due = (in_end p cap slots n all sent got t a b la lb).ended ∙ ap (lasts_in (all b).epoch) ((in_is p cap slots n all sent got t a b la lb).due_open due)

  -- and where its reader, or its sender, is done with the epoch it is
  pub in_through : is_all_done (all b).stage ≡ true → lasts (got l) ≡ (all b).epoch + 1
  in_through over = (in_end p cap slots n all sent got t a b la lb).ended ∙ ap (lasts_in (all b).epoch) ((in_is p cap slots n all sent got t a b la lb).all_ended over)

  pub out_through : is_all_done (all a).stage ≡ true → (all a).done ≡ true → lasts (sent l) ≡ (all a).epoch + 1
  out_through over done = (out_end p cap slots n all sent got t a b la lb).ended ∙ ap (lasts_in (all a).epoch) ((out_is p cap slots n all sent got t a b la lb).done_closed done (none (stack_out_at (all a) b).due refl)) where
    no_round : (s : Stage) → is_all_done s ≡ true → (is_proceeding s || is_exchanging s) ≡ true → ⊥
    no_round Start e k = false≢true e
    no_round Proceeding e k = false≢true e
    no_round Filling e k = false≢true e
    no_round Exchanging e k = false≢true e
    no_round Full e k = false≢true e
    no_round AllDone e k = false≢true k

    none : (d : Bool) → (stack_out_at (all a) b).due ≡ d → (stack_out_at (all a) b).due ≡ false
    none true e = absurd (no_round (all a).stage over ((out_is p cap slots n all sent got t a b la lb).due_round e))
    none false e = e

-- a rank that its turn left in its epoch
module _ (room : RoomLaw) (arrival : ArrivalLaw) (p cap slots : ℕ) (most : ℕ → ℕ) (epochs : ℕ) (over : ℕ → Bool) (n : ℕ → ℕ) (all : ℕ → Stack) (sent got : Logs) (some : 0 < slots)
    (w : AllStacks p cap slots most epochs over n all sent got) (r : ℕ) (low : r < p) (on : over r ≡ false) (going : is_all_done (all r).stage ≡ false)
    (x : Stack) (k : ℕ) (before : Logs) (same_ranks : x.ranks ≡ p) (same_rank : x.rank ≡ r) (same_epoch : (all r).epoch ≡ x.epoch) (cycle : n r ≡ cycle_after k x.stage) (onward : IsOnward x.stage (all r).stage)
    (awaits : Awaits (all r)) (waits : WaitsFor x (all r) before (ending_at (p ∷ []) r got) (crowded_in (p ∷ []) slots r sent got) (idle_in (p ∷ []) r sent got))
    (still : finished_in (n r) (all r).stage ≡ finished_in k x.stage → (b : ℕ) → b < p → (stack_out_at (all r) b).due ≡ true → ending_at (p ∷ []) r got (stack_link_to x b) ≡ before (stack_link_to x b))
    (j : ℕ) (others : (b : ℕ) → b < p → b ≢ r → HasMadeHalves most j (over b) (n b) (all b)) (mine : HasMadeHalves most j false k x) where
  abbrev e : ℕ
  e = (all r).epoch

  abbrev f : ℕ
  f = finished_in (n r) (all r).stage

  abbrev m : ℕ
  m = total e most + f

  t : InStep p cap slots n all sent got
  t = w.step

  finished : f ≡ finished_in (cycle_after k x.stage) (all r).stage
  finished = ap (λ c. finished_in c (all r).stage) cycle

  grows : finished_in k x.stage ≤ f
  grows = omega (arith, finished, finished_more k x.stage (all r).stage onward)

  top : j ≤ 2 * (total e most + finished_in k x.stage) + 1
  top = let a = halves_low most j false k x mine in let b = ap (λ c. total c most) same_epoch in omega (arith, a, b)

  -- in an earlier epoch a rank that goes on has made fewer rounds
  earlier : (b : ℕ) → b < p → over b ≡ false → (all b).epoch < e → total (all b).epoch most + finished_in (n b) (all b).stage + 1 ≤ m
  earlier b lb off less =
      let a = total_more most (suc (all b).epoch) e (omega (arith, less)) in
      let s = w.short b lb off in
      omega (arith, a, s)

  made_by : (b : ℕ) → over b ≡ false → rounds_made most (over b) (n b) (all b) ≡ total (all b).epoch most + finished_in (n b) (all b).stage
  made_by b off = ap (λ o. rounds_made most o (n b) (all b)) off

  module _ (least : 2 * m ≤ j) where
    -- it finished nothing, and is within its round
    same : f ≡ finished_in k x.stage
    same = omega (arith, least, top, grows)

    inside : (is_proceeding (all r).stage || is_exchanging (all r).stage) ≡ true
    inside = stays_within k x.stage (all r).stage onward going (sym finished ∙ same)

    -- the others that go on have finished as much
    position : (b : ℕ) → b < p → b ≢ r → over b ≡ false → HasFinishedRounds e f (n b) (all b)
    position b lb apart off =
        let a = halves_low most j (over b) (n b) (all b) (others b lb apart) in
        let c = made_by b off in
        elim (cases_order (all b).epoch e) [
          | inl here ↦ let q = ap (λ i. total i most) here in inr (here, omega (arith, a, c, q, least))
          | inr (inl less) ↦ let q = earlier b lb off less in absurd (omega (arith, a, c, q, least))
          | inr (inr more) ↦ inl more
        ]

    -- and those that are over are in this epoch or past it
    late : (b : ℕ) → b < p → over b ≡ true → e ≤ (all b).epoch
    late b lb is = let a = w.last b lb is in let c = w.within r low on in omega (arith, a, c)

    -- so all that was posted was collected where a parcel is to be posted
    level : (b : ℕ) → b < p → (stack_out_at (all r) b).due ≡ true → length (got (number p r b)) ≡ length (sent (number p r b))
    level b lb due = elim (cases_eq b r) [
      | inl here ↦ room p cap slots n all sent got t r b low lb (subst (λ q. HasFinishedRounds e f (n q) (all q)) (sym here) (inr (refl, omega arith))) due
      | inr apart ↦ elim (cases_Bool (over b)) [
        | inr off ↦ room p cap slots n all sent got t r b low lb (position b lb apart off) due
        | inl is ↦ elim (cases_lt e (all b).epoch) [
          | inl later ↦ room p cap slots n all sent got t r b low lb (inl later) due
          | inr now ↦
              let g = in_through p cap slots n all sent got t r b low lb (w.ended b lb is) in
              let s = out_going p cap slots n all sent got t r b low lb due in
              let fewer = lasts_begins (got (number p r b)) (sent (number p r b)) (begins p cap slots n all sent got t r b low lb) in
              let o = late b lb is in
              absurd (omega (arith, g, s, fewer, o))
        ]
      ]
    ]

    -- and nothing is left to post
    none_due : (b : ℕ) → b < (all r).ranks → (stack_out_at (all r) b).due ≡ false
    none_due b lb = elim (cases_Bool (stack_out_at (all r) b).due) [
      | inr no' ↦ no'
      | inl due ↦
          let lp : b < p = omega (arith, lb, t.same_ranks r low) in
          let at : stack_link_to x b ≡ number p r b = ap (λ i. number i x.rank b) same_ranks ∙ ap (λ q. number p q b) same_rank in
          let full : crowded_in (p ∷ []) slots r sent got (number p r b) ≡ true = ap (crowded_in (p ∷ []) slots r sent got) (sym at) ∙ waits.posts b (omega (arith, lp, same_ranks)) due (still same b lp due) in
          let c : length (starting_at (p ∷ []) r sent (number p r b)) ≡ length (got (number p r b)) + slots = eqb-true (length (starting_at (p ∷ []) r sent (number p r b))) (length (got (number p r b)) + slots) full in
          let own = ap length (sent_own p cap slots n all sent got t r b low lp) in
          let q = level b lp due in
          absurd (omega (arith, c, own, q, some))
    ]

    halfway : IsHalfway (all r)
    halfway = record { begun = inside; none_due = none_due }

    -- where all ranks had posted their parcels of this round, it would have collected its own
    module _ (odd : j ≡ 2 * m + 1) where
      posted : (a : ℕ) → a < p → a ≢ r → over a ≡ false → HasPostedRounds e f (n a) (all a)
      posted a la apart off =
          let c = made_by a off in
          let h : HasMadeHalves most j (over a) (n a) (all a) = others a la apart in
          let u = halves_low most j (over a) (n a) (all a) h in
          elim (cases_order (all a).epoch e) [
            | inr (inr more) ↦ inl more
            | inr (inl less) ↦ let q = earlier a la off less in absurd (omega (arith, u, c, q, least))
            | inl here ↦
                let q = ap (λ i. total i most) here in
                inr (
                  here,
                  elim h [
                    | inl low' ↦ inl (omega (arith, low', c, q, odd))
                    | inr now ↦ inr (record { round = omega (arith, now.0, c, q, odd); begun = now.2.begun; none_due = now.2.none_due })
                  ],
                )
          ]

      waiting : (a : ℕ) → a < p → (stack_in_at (all r) a).due ≡ true → length (got (number p a r)) < length (sent (number p a r))
      waiting a la due = elim (cases_eq a r) [
        | inl here ↦ arrival p cap slots n all sent got t r a low la
            (subst (λ q. HasPostedRounds e f (n q) (all q)) (sym here) (inr (refl, inr (record { round = refl; begun = inside; none_due = none_due })))) due
        | inr apart ↦ elim (cases_Bool (over a)) [
          | inr off ↦ arrival p cap slots n all sent got t r a low la (posted a la apart off) due
          | inl is ↦ elim (cases_lt e (all a).epoch) [
            | inl later ↦ arrival p cap slots n all sent got t r a low la (inl later) due
            | inr now ↦
                let s = out_through p cap slots n all sent got t a r la low (w.ended a la is) (w.done a la is) in
                let g = in_going p cap slots n all sent got t a r la low due in
                let o = late a la is in
                longer (got (number p a r)) (sent (number p a r)) (begins p cap slots n all sent got t a r la low) (omega (arith, s, g, o))
          ]
        ]
      ] where
        longer : (xs ys : List _) → IsPrefix xs ys → lasts xs < lasts ys → length xs < length ys
        longer xs ys b less = elim (cases_lt (length xs) (length ys)) [
          | inl yes' ↦ yes'
          | inr no' ↦ let same' = ap lasts (begins_whole xs ys b (omega (arith, no'))) in absurd (omega (arith, same', less))
        ]

      stuck : ⊥
      stuck = elim (awaits inside) [
        | inl o ↦ true≢false (sym o.due ∙ none_due o.other o.low)
        | inr i ↦
            let la : i.other < p = omega (arith, i.low, t.same_ranks r low) in
            let at : stack_link_from x i.other ≡ number p i.other r = ap (λ q. number q i.other x.rank) same_ranks ∙ ap (λ q. number p i.other q) same_rank in
            let quiet : idle_in (p ∷ []) r sent got (number p i.other r) ≡ true = ap (idle_in (p ∷ []) r sent got) (sym at) ∙ waits.collects i.other (omega (arith, la, same_ranks)) i.due in
            let c : length (ending_at (p ∷ []) r got (number p i.other r)) ≡ length (sent (number p i.other r)) = eqb-true (length (ending_at (p ∷ []) r got (number p i.other r))) (length (sent (number p i.other r))) quiet in
            let own = ap length (got_own p cap slots n all sent got t i.other r la low) in
            let q = waiting i.other la i.due in
            omega (arith, c, own, q)
      ]

  -- so it has made half a round more
  pub half_more : HasMadeHalves most (j + 1) false (n r) (all r)
  half_more = elim (cases_lt j (2 * m)) [
    | inl below ↦ inl (omega (arith, below))
    | inr above ↦
        let least : 2 * m ≤ j = omega (arith, above) in
        elim (cases_eq j (2 * m)) [
          | inl even ↦ inr (omega (arith, even), refl, halfway least)
          | inr apart ↦ absurd (stuck least (omega (arith, apart, least, top, same least)))
        ]
  ]
