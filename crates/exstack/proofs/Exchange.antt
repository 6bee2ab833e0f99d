-- The exchange law. A call changes one rank's part; what it pops stands next in what its sender
-- pushed, since items arrive in order; and where it completes, all links in have ended, so that all
-- senders are through.
use Rattle.std.proofs.Common.{◌≡◌, ◌≢◌, ℕ, ◌+◌, ◌<◌, Bool, true, false, cond, [], ◌∷◌, ◌++◌, length, slice_get, Some, inl, inr, refl, sym, ap, subst, ◌∙◌, arith, eq-eqb, ne_eqb}
use Rattle.std.proofs.lemmas.Bool.{cases_eq}
use Rattle.bale_items.specs.declared.item.Item.{Item}
use Rattle.list_laws.specs.Lists.{IsPrefix, changed}
use Rattle.port_bank.specs.Logs.{Logs, starting_at, ending_at}
use Rattle.port_bank.specs.Machine.{Part, ItemLists, for_ranks, Step, after, MayComplete, NamesRank, Allows, IsOwnStep, IsStep, IsThrough, completed_of, done_of, EpochsClose}
use Rattle.port_bank.specs.Machine.Step.{Push, Pull, Unpull, Done, Complete, Reset, Idle}
use Rattle.port_bank.proofs.Owners.{sent_elsewhere, got_elsewhere}
use Rattle.port_bank.proofs.Listing.{for_ranks-within, with-item_here, next_of, through_same, through_done, all_below}
use Rattle.exstack.specs.State.{Stack}
use Rattle.exstack.specs.Agreement.{StackAgrees}
use Rattle.exstack.specs.Parts.{stack_part, stack_pushed_to, popped_of, AreOwnSteps, proceed_steps}
use Rattle.exstack.specs.State.{is_all_done}
use Rattle.exstack.specs.Standing.{IsStack}
use Rattle.exstack.specs.Law.{StacksAgree, IsStackCall, stacks_state, AreSteps}
use Rattle.exstack.proofs.BothEnds as ends

for_all : (n m : ℕ) (lists : ItemLists) (e r : ℕ) → m ≡ n → r < n → for_ranks m lists e r ≡ lists e r
for_all n m lists e r same h = ap (λ k. for_ranks k lists e r) same ∙ for_ranks-within n lists e r h

module _ (ranks cap slots : ℕ) (all : ℕ → Stack) (sent got : Logs) (t : StacksAgree ranks cap slots all sent got) where
  -- what a rank pulled is a prefix of what its sender pushed
  pub in_order : (e s d : ℕ) → s < ranks → d < ranks → IsPrefix ((stacks_state ranks all sent got d).pulled e s) ((stacks_state ranks all sent got s).pushed e d)
  in_order e s d from to =
      subst (λ xs. IsPrefix xs ((stacks_state ranks all sent got s).pushed e d)) (sym (for_all ranks (all d).ranks (popped_of (all d) (ending_at (ranks ∷ []) d got)) e s (t.same_ranks d to) from))
      (subst (IsPrefix (popped_of (all d) (ending_at (ranks ∷ []) d got) e s)) (sym (for_all ranks (all s).ranks (stack_pushed_to (all s) (starting_at (ranks ∷ []) s sent)) e d (t.same_ranks s from) to))
      (ends.in_order ranks cap slots all sent got t s d from to e))

  pub all_of : (e s d : ℕ) → s < ranks → d < ranks → e < completed_of (stacks_state ranks all sent got d) → (stacks_state ranks all sent got d).pulled e s ≡ (stacks_state ranks all sent got s).pushed e d
  all_of e s d from to h =
      for_all ranks (all d).ranks (popped_of (all d) (ending_at (ranks ∷ []) d got)) e s (t.same_ranks d to) from
      ∙ (ends.whole ranks cap slots all sent got t s d from to e h
      ∙ sym (for_all ranks (all s).ranks (stack_pushed_to (all s) (starting_at (ranks ∷ []) s sent)) e d (t.same_ranks s from) to))

  pub is_through : (e s d : ℕ) → s < ranks → d < ranks → e < completed_of (stacks_state ranks all sent got d) → IsThrough e (stacks_state ranks all sent got s)
  is_through e s d from to h =
      ends.through ranks cap slots all sent got t s d from to e
      (ends.ended_sent ranks cap slots all sent got t s d from to e (ends.ended ranks cap slots all sent got t s d from to e h))

  -- a complete rank
  pub may_complete : (d : ℕ) → d < ranks → is_all_done (all d).stage ≡ true → MayComplete ranks d (stacks_state ranks all sent got)
  may_complete d to c =
      let now : (all d).epoch < completed_of (stacks_state ranks all sent got d) = subst (λ b. (all d).epoch < cond b ((all d).epoch + 1) (all d).epoch) (sym c) (omega arith) in
      record {
        through = λ s from. is_through (all d).epoch s d from to now;
        all = λ s from. all_of (all d).epoch s d from to now;
      }

  pub close : EpochsClose ranks (stacks_state ranks all sent got)
  close = record {
    begins = λ r s e to from. in_order e s r from to;
    all_done = λ r s to from.
        all_below (completed_of (stacks_state ranks all sent got r)) (done_of (stacks_state ranks all sent got s))
        (λ e h. through_done e (stacks_state ranks all sent got s) (is_through e s r from to h));
    whole = λ r s e to from h. all_of e s r from to h;
  }

module _ (ranks cap slots r : ℕ) (old new : ℕ → Stack) (sent sent' got got' : Logs)
    (t : StacksAgree ranks cap slots old sent got) (c : IsStackCall ranks cap slots r old new sent sent' got got') where
  -- what holds of the rank that is called and of all others, holds of each
  each_rank : (P : ℕ → Type 0) → P r → ((q : ℕ) → q < ranks → q ≢ r → P q) → (q : ℕ) → q < ranks → P q
  each_rank P here other q h = elim (cases_eq q r) [ inl same ↦ subst P (sym same) here | inr ne ↦ other q h ne ]

  agrees_other : (q : ℕ) → q < ranks → q ≢ r → StackAgrees (new q) (starting_at (ranks ∷ []) q sent') (ending_at (ranks ∷ []) q got')
  agrees_other q h ne =
      subst (λ b. StackAgrees b (starting_at (ranks ∷ []) q sent') (ending_at (ranks ∷ []) q got')) (sym (c.others q h ne))
      (subst (λ s. StackAgrees (old q) s (ending_at (ranks ∷ []) q got')) (sym (sent_elsewhere (ranks ∷ []) r q sent sent' ne c.sent_elsewhere))
      (subst (λ g. StackAgrees (old q) (starting_at (ranks ∷ []) q sent) g) (sym (got_elsewhere (ranks ∷ []) r q got got' ne c.got_elsewhere)) (t.agree q h)))

  pub stays_together : StacksAgree ranks cap slots new sent' got'
  stays_together = record {
    few = t.few;
    links_keep = c.links_keep;
    same_ranks = each_rank (λ q. (new q).ranks ≡ ranks) c.same_ranks (λ q h ne. ap (λ (b : Stack). b.ranks) (c.others q h ne) ∙ t.same_ranks q h);
    same_rank = each_rank (λ q. (new q).rank ≡ q) c.same_rank (λ q h ne. ap (λ (b : Stack). b.rank) (c.others q h ne) ∙ t.same_rank q h);
    standing = each_rank (λ q. IsStack cap (new q)) c.standing (λ q h ne. subst (IsStack cap) (sym (c.others q h ne)) (t.standing q h));
    agree = each_rank (λ q. StackAgrees (new q) (starting_at (ranks ∷ []) q sent') (ending_at (ranks ∷ []) q got')) c.agrees agrees_other;
  }

  before : ℕ → Part
  before = stacks_state ranks old sent got

  later : ℕ → Part
  later = stacks_state ranks new sent' got'

  other_parts : (q : ℕ) → q < ranks → q ≢ r → later q ≡ before q
  unfolding before later
  other_parts q h ne =
      let b = c.others q h ne in
      let s = sent_elsewhere (ranks ∷ []) r q sent sent' ne c.sent_elsewhere in
      let g = got_elsewhere (ranks ∷ []) r q got got' ne c.got_elsewhere in
      λ i. stack_part (b i) (s i) (g i)

  -- a state in which the other ranks are as after the call
  module _ (mid : ℕ → Part) (others : (q : ℕ) → q < ranks → q ≢ r → later q ≡ mid q) where
    stays : {X : Type 0} (f : Part → X) → f (later r) ≡ f (mid r) → (q : ℕ) → q < ranks → f (later q) ≡ f (mid q)
    stays f own = each_rank (λ q. f (later q) ≡ f (mid q)) own (λ q h ne. ap f (others q h ne))

    pull_allowed : (s : ℕ) (x : Item) → s < ranks → IsOwnStep (Pull s x) (mid r) (later r) → slice_get ((mid s).pushed (mid r).epoch r) (length ((mid r).pulled (mid r).epoch s)) ≡ Some x
    unfolding later
    pull_allowed s x h own =
        let e : ℕ = (mid r).epoch in
        let grown : (later r).pulled e s ≡ (mid r).pulled e s ++ x ∷ [] = ap (λ p. p.pulled e s) own.is ∙ with-item_here (mid r).pulled e s x in
        let stay : (later s).pushed e r ≡ (mid s).pushed e r = ap (λ f. f e r) (stays (λ p. p.pushed) (ap (λ p. p.pushed) own.is) s h) in
        next_of ((mid r).pulled e s) ((mid s).pushed e r) x
        (subst (λ ys. IsPrefix ((mid r).pulled e s ++ x ∷ []) ys) stay
        (subst (λ xs. IsPrefix xs ((later s).pushed e r)) grown (in_order ranks cap slots new sent' got' stays_together e s r h c.rank)))

    complete_allowed : IsOwnStep Complete (mid r) (later r) → MayComplete ranks r mid
    unfolding later
    complete_allowed own =
        let m = may_complete ranks cap slots new sent' got' stays_together r c.rank (ap (λ p. p.complete) own.is) in
        let e : (later r).epoch ≡ (mid r).epoch = ap (λ p. p.epoch) own.is in
        let pulled : (later r).pulled ≡ (mid r).pulled = ap (λ p. p.pulled) own.is in
        record {
          through = λ q h. through_same (later r).epoch (mid r).epoch (later q) (mid q) e (stays (λ p. p.epoch) e q h) (stays (λ p. p.done) (ap (λ p. p.done) own.is) q h) (m.through q h);
          all = λ q h.
              let pushed : (later q).pushed ≡ (mid q).pushed = stays (λ p. p.pushed) (ap (λ p. p.pushed) own.is) q h in
              let left : (mid r).pulled (mid r).epoch q ≡ (later r).pulled (later r).epoch q = sym (λ i. (pulled i) (e i) q) in
              let right : (later q).pushed (later r).epoch r ≡ (mid q).pushed (mid r).epoch r = λ i. (pushed i) (e i) r in
              left ∙ (m.all q h ∙ right);
        }

    allowed : (step : Step) → NamesRank ranks step → IsOwnStep step (mid r) (later r) → Allows ranks r step mid
    allowed (Push d x) named own = tt
    allowed (Pull s x) named own = pull_allowed s x named own
    allowed Unpull named own = tt
    allowed Done named own = tt
    allowed Complete named own = complete_allowed own
    allowed Reset named own = tt
    allowed Idle named own = tt

    made : (step : Step) → NamesRank ranks step → IsOwnStep step (mid r) (later r) → IsStep ranks r step mid later
    made step named own = record { allowed = allowed step named own; own = own; others = others }

  pub is_step : (step : Step) → NamesRank ranks step → IsOwnStep step (stacks_state ranks old sent got r) (stacks_state ranks new sent' got' r)
      → IsStep ranks r step (stacks_state ranks old sent got) (stacks_state ranks new sent' got')
  unfolding before later
  is_step step named own = made before other_parts step named own

  -- a state in which the called rank made steps
  at_rank : (state : ℕ → Part) (p : Part) → changed state r p r ≡ p
  at_rank state p = ap (λ b. cond b p (state r)) (eq-eqb r r refl)

  off_rank : (state : ℕ → Part) (p : Part) (q : ℕ) → q ≢ r → changed state r p q ≡ state q
  off_rank state p q ne = ap (λ b. cond b p (state q)) (ne_eqb q r ne)

  -- one step, where the call makes no other
  last_one : (mid : ℕ → Part) (step : Step) → NamesRank ranks step → ((q : ℕ) → q < ranks → q ≢ r → later q ≡ mid q) → IsOwnStep step (mid r) (after step (mid r)) → later r ≡ after step (mid r)
      → IsStep ranks r step mid (changed mid r (after step (mid r))) × ((q : ℕ) → q < ranks → later q ≡ changed mid r (after step (mid r)) q)
  last_one mid step named others own is =
      let k = made mid others step named (record { may = own.may; is = is }) in (
        record {
          allowed = k.allowed;
          own = record { may = own.may; is = at_rank mid (after step (mid r)) };
          others = λ q h ne. off_rank mid (after step (mid r)) q ne;
        },
        each_rank (λ q. later q ≡ changed mid r (after step (mid r)) q) (is ∙ sym (at_rank mid (after step (mid r)))) (λ q h ne. others q h ne ∙ sym (off_rank mid (after step (mid r)) q ne)),
      )

  noted : ℕ → Part
  noted = changed before r (after Done (before r))

  pub are_steps : (was now complete : Bool) → AreOwnSteps (proceed_steps was now complete) (stacks_state ranks old sent got r) (stacks_state ranks new sent' got' r)
      → AreSteps ranks r (proceed_steps was now complete) (stacks_state ranks old sent got) (stacks_state ranks new sent' got')
  unfolding before later noted
  are_steps false true true own =
      let mid : ℕ → Part = changed before r (after Done (before r)) in
      let here : mid r ≡ after Done (before r) = at_rank before (after Done (before r)) in
      let others : (q : ℕ) → q < ranks → q ≢ r → later q ≡ mid q = λ q h ne. other_parts q h ne ∙ sym (off_rank before (after Done (before r)) q ne) in (
        record { allowed = tt; own = record { may = tt; is = here }; others = λ q h ne. off_rank before (after Done (before r)) q ne },
        last_one mid Complete tt others (record { may = tt; is = refl }) (own.1.1 ∙ ap (after Complete) (sym here)),
      )
  are_steps false true false own = last_one before Done tt other_parts (record { may = tt; is = refl }) own.1
  are_steps false false true own = last_one before Complete tt other_parts (record { may = tt; is = refl }) own.1
  are_steps false false false own = last_one before Idle tt other_parts (record { may = tt; is = refl }) own.1
  are_steps true true true own = last_one before Complete tt other_parts (record { may = tt; is = refl }) own.1
  are_steps true true false own = last_one before Idle tt other_parts (record { may = tt; is = refl }) own.1
  are_steps true false true own = last_one before Complete tt other_parts (record { may = tt; is = refl }) own.1
  are_steps true false false own = last_one before Idle tt other_parts (record { may = tt; is = refl }) own.1
